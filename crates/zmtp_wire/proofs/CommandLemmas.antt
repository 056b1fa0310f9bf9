-- The parts of a command's body.
use Rattle.std.proofs.Common.{◌≡◌, ℕ, ◌+◌, ◌-◌, ◌<◌, ◌≤◌, List, ◌∷◌, ◌++◌, length, take, drop, get_or, sym, ap, ◌∙◌}
use Rattle.std.proofs.Common.{subst, arith, add_comm, length-drop}
use Rattle.std.proofs.Math.Seq.{drop-cons}
use Rattle.std.proofs.lemmas.List.{take_all, take-append-drop, drop-drop, length-take-le}

-- a name of the length that the first octet says, and what is left behind it
pub command_parts : (body name rest : List ℕ) (size : ℕ) → 0 < length body → size ≡ get_or body 0 0
    → size ≤ length (take (length body - 1) (drop 1 body))
    → name ≡ take size (take (length body - 1) (drop 1 body)) → rest ≡ drop (size + 1) body
    → (length name ≡ size) × (body ≡ length name ∷ (name ++ rest))
command_parts body name rest size some said within named behind =
    let all : take (length body - 1) (drop 1 body) ≡ drop 1 body =
    take_all (length body - 1) (drop 1 body) (omega (arith, length-drop 1 body)) in
    let is_name : name ≡ take size (drop 1 body) = named ∙ ap (take size) all in
    let is_rest : rest ≡ drop size (drop 1 body) =
    behind ∙ ap (λ n. drop n body) (add_comm size 1) ∙ sym (drop-drop size 1 body) in
    let fits : size ≤ length (drop 1 body) = subst (λ l. size ≤ length l) all within in
    let len : length name ≡ size = ap length is_name ∙ length-take-le size (drop 1 body) fits in
    let joined : name ++ rest ≡ drop 1 body =
    ap (λ n. n ++ rest) is_name ∙ ap (λ r. take size (drop 1 body) ++ r) is_rest
    ∙ take-append-drop size (drop 1 body) in
    let whole : body ≡ get_or body 0 0 ∷ drop 1 body = drop-cons body 0 0 some in
    (len, whole ∙ ap (λ o. o ∷ drop 1 body) (sym said ∙ sym len) ∙ ap (λ l. length name ∷ l) (sym joined))
