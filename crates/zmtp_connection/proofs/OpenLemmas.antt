-- A peer that was open, and more octets behind what it sent.
use Rattle.std.proofs.Common.{◌≡◌, ℕ, ◌≤◌, List, ◌++◌, length, take, drop, sym, ◌∙◌, ap, subst, arith, append_assoc}
use Rattle.std.proofs.Common.{length-append}
use Rattle.std.proofs.lemmas.List.{take-append-le, drop-append-le}
use Rattle.zmtp_wire.specs.declared.handshake.socket_type.SocketType.{SocketType}
use Rattle.zmtp_wire.specs.declared.traffic.Traffic.{Traffic}
use Rattle.zmtp_wire.specs.Greeting.{IsGreeting}
use Rattle.zmtp_connection.specs.Peer.{ComesFirst, IsGreeted, IsOpenPeer}

pub take_more : (octets after : List ℕ) → 64 ≤ length octets → take 64 (octets ++ after) ≡ take 64 octets
take_more octets after whole = take-append-le 64 octets after whole

pub drop_more : (octets after : List ℕ) → 64 ≤ length octets → drop 64 (octets ++ after) ≡ drop 64 octets ++ after
drop_more octets after whole = drop-append-le 64 octets after whole

pub greeted_more : (ours : SocketType) (octets after opening : List ℕ) → IsGreeted ours octets opening
    → IsGreeted ours (octets ++ after) opening
greeted_more ours octets after opening h = record {
  whole = let w = h.whole in omega (arith, w, length-append octets after);
  accepted = subst IsGreeting (sym (take_more octets after h.whole)) h.accepted;
  greets = h.greets;
}

pub first_more : (octets after : List ℕ) (first : Traffic) (behind : List ℕ) → 64 ≤ length octets
    → ComesFirst octets first behind → ComesFirst (octets ++ after) first (behind ++ after)
first_more octets after first behind whole h = record {
  front = h.front;
  split = drop_more octets after whole ∙ ap (λ o. o ++ after) h.split ∙ append_assoc h.front behind after;
  spelled = h.spelled;
}

-- a peer that was open stays so, whatever it sends then
pub open_more : (ours : SocketType) (octets after opening : List ℕ) (peer : SocketType) (behind : List ℕ)
    → IsOpenPeer ours octets opening peer behind → IsOpenPeer ours (octets ++ after) opening peer (behind ++ after)
open_more ours octets after opening peer behind is_open = record {
  greeted = greeted_more ours octets after opening is_open.greeted;
  first = is_open.first;
  comes = first_more octets after is_open.first behind is_open.greeted.whole is_open.comes;
  accepted = is_open.accepted;
}
