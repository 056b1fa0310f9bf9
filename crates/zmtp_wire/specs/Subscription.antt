-- What a subscriber asks for: it subscribes to topics, and gives them up. It does so by messages (ZMTP 3.0, "The SUB
-- Socket Type") or by the commands SUBSCRIBE and CANCEL (ZeroMQ RFC 37, rules `subscribe` and `cancel`).
use Rattle.std.specs.Prelude.{ℕ, zero, suc, if◌then◌else◌, List, [], ◌∷◌, Option, Some, None, bytes_eq, codes}
use Rattle.zmtp_wire.specs.declared.traffic.Traffic.{Traffic}
use Rattle.zmtp_wire.specs.declared.traffic.Traffic.TheVariants.{Message, Command}

-- the body of the frame of a message that has one frame
abbrev pub sole_body : List (List ℕ) → Option (List ℕ)
sole_body [] = None
sole_body (body ∷ []) = Some body
sole_body (body ∷ next ∷ bodies) = None

-- what follows the 1 with which octets begin, if they do
abbrev pub behind_one : Option (List ℕ) → Option (List ℕ)
behind_one None = None
behind_one (Some []) = None
behind_one (Some (zero ∷ octets)) = None
behind_one (Some (suc zero ∷ octets)) = Some octets
behind_one (Some (suc (suc more) ∷ octets)) = None

-- what follows the 0 with which octets begin, if they do
abbrev pub behind_zero : Option (List ℕ) → Option (List ℕ)
behind_zero None = None
behind_zero (Some []) = None
behind_zero (Some (zero ∷ octets)) = Some octets
behind_zero (Some (suc more ∷ octets)) = None

-- The topic that traffic subscribes to. It follows the 1 with which the one frame of a message begins, or the name of
-- the command SUBSCRIBE.
abbrev pub subscribed_topic : Traffic → Option (List ℕ)
subscribed_topic (Message bodies) = behind_one (sole_body bodies)
subscribed_topic (Command name rest) = if bytes_eq name (codes "SUBSCRIBE") then Some rest else None

-- The topic that traffic gives up. It follows the 0 with which the one frame of a message begins, or the name of the
-- command CANCEL.
abbrev pub cancelled_topic : Traffic → Option (List ℕ)
cancelled_topic (Message bodies) = behind_zero (sole_body bodies)
cancelled_topic (Command name rest) = if bytes_eq name (codes "CANCEL") then Some rest else None
