-- The types of a socket (ZeroMQ RFC 23, property `Socket-Type`), and which of them talk to each other.
use Rattle.std.specs.Prelude.{◌≡◌, ℕ, List, [], ◌∷◌, codes, Contains}
use Rattle.std.specs.Str.{str_to_ascii_lowercase}
use Rattle.zmtp_wire.specs.declared.handshake.socket_type.SocketType.{SocketType}
use Rattle.zmtp_wire.specs.declared.handshake.socket_type.SocketType.TheVariants.{Req, Rep, Dealer, Router, Pub, Sub}
use Rattle.zmtp_wire.specs.declared.handshake.socket_type.SocketType.TheVariants.{Xsub}

-- the name of a type, as it is sent
abbrev pub type_name : SocketType → List ℕ
type_name Req = codes "REQ"
type_name Rep = codes "REP"
type_name Dealer = codes "DEALER"
type_name Router = codes "ROUTER"
type_name Pub = codes "PUB"
type_name Sub = codes "SUB"
type_name Xsub = codes "XSUB"

-- the octets name the type, without regard to ASCII case
abbrev pub NamesType : List ℕ → SocketType → Type 0
NamesType octets socket = str_to_ascii_lowercase octets ≡ str_to_ascii_lowercase (type_name socket)

-- the types of a peer that a socket of ours accepts
abbrev pub partners : SocketType → List SocketType
partners Req = Rep ∷ Router ∷ []
partners Rep = Req ∷ Dealer ∷ []
partners Dealer = Rep ∷ Dealer ∷ Router ∷ []
partners Router = Req ∷ Dealer ∷ Router ∷ []
partners Pub = Sub ∷ Xsub ∷ []
partners Sub = Pub ∷ []
partners Xsub = Pub ∷ []

-- ours accepts the peer's type
abbrev pub Pairs : SocketType → SocketType → Type 0
Pairs ours peer = Contains (partners ours) peer
