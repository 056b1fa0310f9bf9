-- A message that was opened, and whose request was handled or refused, was taken, and so was one that isn't read.
use Rattle.std.proofs.Common.{inl, inr, refl, subst, sym}
use Rattle.jmsg_envelope.specs.Envelope.{Opened}
use Rattle.kernel_engine.specs.declared.asked.Asked.{Asked}
use Rattle.kernel_engine.specs.declared.asked.Done.{Done}
use Rattle.kernel_engine.specs.declared.asked.Done.TheVariants.{Ignored, Lost, Handled, Refused}
use Rattle.kernel_engine.specs.declared.asked.Unread.{Unread}
use Rattle.kernel_engine.specs.declared.asked.Unread.TheVariants.{NoRequest, NoMemory}
use Rattle.kernel_engine.specs.declared.parts.Parts.{Parts}
use Rattle.kernel_engine.specs.Block.{Message}
use Rattle.kernel_engine.specs.Takes.{Finishes, GoesUnread, AreUnread, Takes}
use Rattle.kernel_engine.specs.World.{World}

-- so it is by what came of it
pub taken : {I P S W Cell : Type 0} (world : World I P S W Cell) (may : Type 0) (frames : Message) (asked : Asked)
    (old : Parts I P S W) (done : Done) (new : Parts I P S W) → Opened old.publishing.signer frames asked.request
    → Finishes world may asked old done new → Takes world may frames old done new
taken world may frames asked old Ignored new opened never = absurd never
taken world may frames asked old Lost new opened never = absurd never
taken world may frames asked old (Handled handled) new opened (read, ok) = (asked.request, opened, ok)
taken world may frames asked old (Refused fault) new opened why = inl (asked.request, opened, why)

-- a message that isn't read was taken, and nothing changed
pub unread_taken : {I P S W Cell : Type 0} (world : World I P S W Cell) (may : Type 0) (frames : Message)
    (unread : Unread) (engine : Parts I P S W) (done : Done) → AreUnread engine.publishing.signer frames unread
    → GoesUnread engine unread done → Takes world may frames engine done engine
unread_taken world may frames NoRequest engine done misses is =
    subst (λ d. Takes world may frames engine d engine) (sym is) (misses, refl)
unread_taken world may frames NoMemory engine done misses (inl (few, is)) =
    subst (λ d. Takes world may frames engine d engine) (sym is) (few, refl)
unread_taken world may frames NoMemory engine done misses (inr (many, is)) =
    subst (λ d. Takes world may frames engine d engine) (sym is)
    (inr (record { many = many; fault_is = refl; same = refl }))
