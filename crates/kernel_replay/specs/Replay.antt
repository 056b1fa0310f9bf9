-- What is made of an input in a replay, and of the octets of a peer.
use Rattle.std.specs.Prelude.{◌≡◌, ℕ, List, [], Option, Some, IfSome, None}
use Rattle.std.specs.Io.KnownBytes.{Appends, Consumes, IsAtEnd}
use Rattle.interp_core.specs.Interpreter.{Meaning}
use Rattle.zmtp_connection.specs.declared.end.ConnectionEnd.TheVariants.{Eof}
use Rattle.zmtp_connection.specs.declared.end.Ending.TheVariants.{Connection}
use Rattle.kernel_session.specs.Session.{Run}
use Rattle.kernel_replay.specs.Lines.{hex_octets}
use Rattle.kernel_replay.specs.Session.{IsPrinted, IsLines}

-- The input spells no octets.
abbrev pub IsNotHex : Option (List ℕ) → Type 0
IsNotHex input = IfSome input (λ octets. hex_octets octets ≡ None)

module _ {State Cell : Type 0} (m : Meaning State Cell) (state : State) where
  -- The lines of the session with a peer whose octets were read, for some courses and dates. If the session ended with
  -- the peer's last octet, all were read.
  pub record PrintsPeer (key : List ℕ) (left left' : Option (List ℕ)) (output : List ℕ) : Type 0 where
    pub runs : List (Run State)
    pub octets : List ℕ
    pub taken : Consumes left left' octets
    pub printed : IsPrinted m state key runs octets output
    pub read_out : printed.ending ≡ Connection Eof → IsAtEnd left'

  -- the lines that are printed for all the octets that a peer sends, for some courses and dates
  abbrev pub PrintsAll : List ℕ → List ℕ → List ℕ → Type 0
  PrintsAll key octets output = (runs : List (Run State)) × IsPrinted m state key runs octets output

  -- All of the input was read, and its lines were added to the output, for some courses and dates.
  abbrev pub IsReplayed : List ℕ → Option (List ℕ) → Option (List ℕ) → Option (List ℕ) → Option (List ℕ) → Type 0
  IsReplayed key input left before after = IfSome input (λ octets. (left ≡ Some [])
      × ((runs : List (Run State)) × (output : List ℕ) × IsLines m state key runs octets output
      × Appends before after output))
