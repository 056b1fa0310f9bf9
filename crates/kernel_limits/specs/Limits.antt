-- What is decided by the limits of a server. Time is in milliseconds.
use Rattle.std.specs.Prelude.{ℕ, ◌+◌, ◌-◌, ◌*◌, ◌<◌, ◌≤◌, min, max, List, Bool, true, ◌&&◌, nat_lt, nat_le}
use Rattle.std.specs.Prelude.{Option, Some, None, false, codes, not, ◌||◌, drop, length, if◌then◌else◌}
use Rattle.std.specs.List.{sum_by}
use Rattle.std.specs.Str.{bytes_eq}
use Rattle.kernel_limits.specs.declared.handover.Claim.{Claim}
use Rattle.kernel_limits.specs.declared.handover.Claim.TheVariants.{Opens, Waits, Signs}
use Rattle.kernel_limits.specs.declared.handover.Holder.{Holder}
use Rattle.kernel_limits.specs.declared.handover.Holder.TheVariants.{Gone, Unsigned, Signed}
use Rattle.kernel_limits.specs.declared.meter.Meter.{Meter}
use Rattle.kernel_limits.specs.declared.pace.Pace.{Pace}
use Rattle.kernel_limits.specs.declared.pace.Waste.{Waste}
use Rattle.kernel_limits.specs.declared.place.Place.{Place}
use Rattle.kernel_limits.specs.declared.place.Place.TheVariants.{Free, Of, Taken}
use Rattle.kernel_limits.specs.declared.topic_count.TopicCount.{TopicCount}
use Rattle.kernel_limits.specs.declared.unfinished.Part.{Part}

-- A connection may be read on if fewer than 64 of its jobs wait or have unwritten replies, and these have fewer than 64
-- MiB.
abbrev pub may_read : ℕ → ℕ → ℕ → Bool
may_read jobs octets replies = nat_lt (jobs + replies) 64 && nat_lt octets 67108864

-- a number as it is counted: never more than the greatest number of 64 bits
abbrev pub capped : ℕ → ℕ
capped n = min n 18446744073709551615

-- what is left now of a span of time that began then
abbrev pub left_of_span : ℕ → ℕ → ℕ → ℕ
left_of_span began millis now = capped (began + millis) - now

-- the relay waits for a slow subscriber, unless it is 300 ms or more since the kernel was to end
abbrev pub waits_on : Option ℕ → ℕ → Bool
waits_on None now = true
waits_on (Some since) now = nat_lt (now - since) 300

-- the first of two places that is there, as what a newcomer may take
abbrev pub place_of_either : Option ℕ → Option ℕ → Place
place_of_either (Some shaking) left = Of shaking
place_of_either None (Some left) = Of left
place_of_either None None = Taken

-- What becomes of a newcomer. It has a place among 240. Else it takes that of the oldest connection in its handshake,
-- or else that of the oldest whose peer has closed its side.
abbrev pub place_of : ℕ → Option ℕ → Option ℕ → Place
place_of many shaking left = if nat_lt many 240 then Free else place_of_either shaking left

-- How much may be kept for one subscriber, if so much is kept for it, and so much for all beyond 64 KiB each. It may
-- have what it has, or 64 KiB if that is more, and what is left of 48 MiB. It never has more than 16 MiB.
abbrev pub share_of : ℕ → ℕ → ℕ
share_of kept beyond = min 16777216 (max kept 65536 + (50331648 - beyond))

-- How much may be kept for one subscriber once a message is being written that began while its share
-- wasn't full: as a share, with 32 MiB more for that message, for one and for all.
abbrev pub most_of : ℕ → ℕ → ℕ
most_of kept beyond = min 50331648 (max 65536 kept + (83886080 - beyond))

-- what one subscriber has of the 48 MiB: what is kept for it beyond 64 KiB
abbrev pub share_excess : ℕ → ℕ
share_excess kept = kept - 65536

-- the pace of a subscriber that took so many octets more; once it has taken 64 KiB its time begins anew
abbrev pub pace_after : Pace → ℕ → ℕ → Pace
pace_after pace count now =
    if nat_lt (pace.taken + count) 65536 then record pace { taken = pace.taken + count }
    else record pace { since = now; taken = 0 }

-- A subscriber is slow if it didn't take 64 KiB in its time. That is ten seconds, if it took 64 KiB a second or more
-- after the first was kept for it. Else it is `grace`.
abbrev pub is_slow : Pace → ℕ → ℕ → Bool
is_slow pace grace now = nat_le (if nat_le 1000 (pace.since - pace.begun) then 10000 else grace) (now - pace.since)

-- for how long the relay waited in vain; nothing of it counts any more a minute after the last time
abbrev pub wasted_by : Waste → ℕ → ℕ
wasted_by waste now = if nat_lt (now - waste.last) 60000 then waste.millis else 0

-- the waste after the relay waited in vain for so much longer, until now
abbrev pub wasting : Waste → ℕ → ℕ → Waste
wasting waste millis now = record { millis = capped (wasted_by waste now + millis); last = now }

-- The time in which a subscriber has to take 64 KiB if it hasn't kept the pace yet. That is ten seconds, less the time
-- for which the relay waited in vain, and never less than a quarter of a second.
abbrev pub grace_of : Waste → ℕ → ℕ
grace_of waste now = max (10000 - wasted_by waste now) 250

-- There is room for a topic of so many octets: fewer than 10,000 topics are there, and with it they have 1 MiB at most.
abbrev pub IsRoomFor : ℕ → TopicCount → Type 0
IsRoomFor octets count = (count.topics < 10000) × (count.octets + octets ≤ 1048576)

-- the count after one more topic, of so many octets
abbrev pub with_topic : ℕ → TopicCount → TopicCount
with_topic octets count = record { topics = count.topics + 1; octets = count.octets + octets }

-- the count after one topic less, of so many octets
abbrev pub without_topic : ℕ → TopicCount → TopicCount
without_topic octets count = record { topics = count.topics - 1; octets = count.octets - octets }

-- what a subscriber's topics take beyond 16 KiB, if each takes 128 octets beside its own
abbrev pub topics_excess : TopicCount → ℕ
topics_excess count = capped (capped (count.topics * 128) + count.octets) - 16384

-- topics may take so much more if the topics of all take so much: 16 MiB in all
abbrev pub may_hold : ℕ → ℕ → Bool
may_hold all more = nat_le (all + more) 16777216

-- the relay is told of topics of up to 4 KiB
abbrev pub is_told : ℕ → Bool
is_told octets = nat_le octets 4096

-- a subscriber may come, or ask for something, if fewer than 64 of such events wait
abbrev pub may_ask : ℕ → Bool
may_ask waiting = nat_lt waiting 64

-- the meter of a handshake that begins now, which may have 64 KiB
abbrev pub shaking : ℕ → Meter
shaking now = record { most = 65536; held = 0; rest = 0; since = Some now }

-- the meter of a connection whose messages may have so many octets; nothing of it is unfinished
abbrev pub opened_meter : ℕ → Meter
opened_meter most = record { most = most; held = 0; rest = 0; since = None }

-- when something began: at that time, or now if nothing had begun
abbrev pub since_or : Option ℕ → ℕ → ℕ
since_or (Some since) now = since
since_or None now = now

-- how much is left of the 30 seconds for what is unfinished, if something is
abbrev pub left_for_unfinished : Option ℕ → ℕ → Option ℕ
left_for_unfinished (Some since) now = Some (left_of_span since 30000 now)
left_for_unfinished None now = None

-- the meter after so many octets more were read
abbrev pub reading : Meter → ℕ → ℕ → Meter
reading meter count now = record meter {
  held = capped (meter.held + count);
  since = Some (since_or meter.since now);
}

-- The meter once it is known how many of the octets came after the last whole message. All that were read count still.
abbrev pub noted : Meter → ℕ → ℕ → Meter
noted meter rest now = record meter {
  held = max meter.held rest;
  rest = rest;
  since = if nat_lt 0 rest then Some (since_or meter.since now) else meter.since;
}

-- the time since when something is unfinished, if anything is, set to now
abbrev pub since_now : Option ℕ → ℕ → Option ℕ
since_now (Some since) now = Some now
since_now None now = None

-- The meter after a while in which nothing was read, though octets may have been there. The time of what is unfinished
-- begins anew.
abbrev pub resumed : Meter → ℕ → Meter
resumed meter now = record meter { since = since_now meter.since now }

-- The meter after the last whole message was looked at. What came after it is unfinished, from now on; if nothing did,
-- nothing is.
abbrev pub finished : Meter → ℕ → Meter
finished meter now = record meter {
  held = meter.rest;
  since = if nat_lt 0 meter.rest then Some now else None;
}

-- how much is unfinished beyond 64 KiB
abbrev pub excess_of : Meter → ℕ
excess_of meter = meter.held - 65536

-- the parts of unfinished messages have more than 64 MiB together
abbrev pub is_overfull : List Part → Bool
is_overfull parts = nat_lt 67108864 (sum_by (λ (part : Part). part.octets) parts)

-- whether a text ends with these octets
abbrev pub ends_so : List ℕ → List ℕ → Bool
ends_so end text = bytes_eq (drop (length text - length end) text) end

-- A type of message that clients send and the kernel doesn't. That is each request but the one on stdin, and two types
-- of a comm's messages.
abbrev pub is_sent_by_clients : List ℕ → Bool
is_sent_by_clients kind =
    (ends_so (codes "_request") kind && not (bytes_eq kind (codes "input_request")))
    || bytes_eq kind (codes "comm_open") || bytes_eq kind (codes "comm_msg")

-- Whether another connection of an identity gets the replies of the one that holds them. It always does if the holder's
-- peer left, or if it signs a message itself. When it opens it also does if the holder's peer hasn't signed any.
abbrev pub takes_over : Holder → Claim → Bool
takes_over Gone Opens = true
takes_over Gone Waits = true
takes_over Gone Signs = true
takes_over Unsigned Opens = true
takes_over Unsigned Waits = false
takes_over Unsigned Signs = true
takes_over Signed Opens = false
takes_over Signed Waits = false
takes_over Signed Signs = true

-- replies wait for a peer that left less than a minute ago
abbrev pub is_awaited : ℕ → ℕ → Bool
is_awaited since now = nat_lt (now - since) 60000

-- The process with which a kernel ends: its parent. If another process is named and is gone already, it is that one.
abbrev pub looked_after : ℕ → Option ℕ → Bool → ℕ
looked_after parent (Some named) true = named
looked_after parent (Some named) false = parent
looked_after parent None is_gone = parent
