-- An intake that hears a peer.
use Rattle.std.proofs.Common.{◌≡◌, inl, inr, ℕ, List, [], ◌∷◌, ◌++◌, Option, Some, None, sym, ◌∙◌}
use Rattle.std.proofs.Common.{ap, subst, append_assoc}
use Rattle.std.proofs.lemmas.List.{append-nil}
use Rattle.zmtp_wire.specs.declared.traffic.Traffic.{Traffic}
use Rattle.zmtp_connection.specs.declared.end.ConnectionEnd.{ConnectionEnd}
use Rattle.zmtp_connection.specs.declared.end.Ending.{Ending}
use Rattle.zmtp_connection.specs.declared.end.Ending.TheVariants.{Connection, Host}
use Rattle.zmtp_connection.specs.Exchange.{Source}
use Rattle.zmtp_connection.specs.Listen.{Hearing, HearsAll, Listens}
use Rattle.zmtp_connection.specs.Intake.{Fills, FillsAll, FillsOne, Grows, IntakeStep}
use Rattle.zmtp_connection.proofs.SeenLemmas.{out_seen, off_seen}

grows_none : (told : Option (List Traffic)) → Grows told told []
grows_none None = tt
grows_none (Some list) = sym (append-nil list)

grows_on : (one two three : Option (List Traffic)) (first more : List Traffic) → Grows one two first
    → Grows two three more → Grows one three (first ++ more)
grows_on None two three first more a b = tt
grows_on (Some x) None three first more a b = absurd a
grows_on (Some x) (Some y) None first more a b = absurd b
grows_on (Some x) (Some y) (Some z) first more a b = b ∙ ap (λ t. t ++ more) a ∙ append_assoc x first more

-- the steps of an intake that a listener holds
abbrev pub fills_by : {Listener Intake : Type 0} → (Listener → Intake) → IntakeStep Intake
    → (Intake → Option (List Traffic)) → Hearing Listener ConnectionEnd
fills_by view takes told old traffic new result = FillsOne takes told (view old) traffic (view new) result

-- the list grew by all that was heard
grown : {Listener Intake : Type 0} (view : Listener → Intake) (takes : IntakeStep Intake)
    (told : Intake → Option (List Traffic)) (old new : Listener) (traffic : List Traffic)
    → HearsAll (fills_by view takes told) old traffic new → Grows (told (view old)) (told (view new)) traffic
grown view takes told old new [] same =
    subst (λ l. Grows (told (view old)) (told (view l)) []) (sym same) (grows_none (told (view old)))
grown view takes told old new (first ∷ others) (middle, (one, put), rest) =
    grows_on (told (view old)) (told (view middle)) (told (view new)) (first ∷ []) others put
    (grown view takes told middle new others rest)

-- how hearing ended, which the connection or the intake told
abbrev pub told_end : Ending ConnectionEnd → ConnectionEnd
told_end (Connection end) = end
told_end (Host end) = end

filled : {Listener Intake : Type 0} (view : Listener → Intake) (takes : IntakeStep Intake)
    (told : Intake → Option (List Traffic)) (old : Listener) (before : List ℕ) (source source' : Source)
    (new : Listener) (ending : Ending ConnectionEnd)
    → Listens (fills_by view takes told) old before source source' new ending
    → FillsAll takes told (view old) before source source' (view new) (told_end ending)
filled view takes told old before source source' new (Connection end) out = record {
  listens = inl (out_seen view (fills_by view takes told) (Fills takes) (λ a b traffic result one. one.0) old before
      source source' new end out);
  put = grown view takes told old new out.heard.traffic out.heard.handed;
}
filled view takes told old before source source' new (Host end) off = record {
  listens = inr (off_seen view (fills_by view takes told) (Fills takes) (λ a b traffic result one. one.0) old before
      source source' new end off);
  put = subst (Grows (told (view old)) (told (view new))) (append-nil off.heard.traffic)
      (grows_on (told (view old)) (told (view off.now)) (told (view new)) off.heard.traffic []
      (grown view takes told old off.now off.heard.traffic off.heard.handed) off.ends.1);
}

-- the same of what the intake became
pub filled_as : {Listener Intake : Type 0} (view : Listener → Intake) (takes : IntakeStep Intake)
    (told : Intake → Option (List Traffic)) (old : Listener) (before : List ℕ) (source source' : Source)
    (new : Listener) (state : Intake) → state ≡ view new → (ending : Ending ConnectionEnd)
    → Listens (fills_by view takes told) old before source source' new ending
    → FillsAll takes told (view old) before source source' state (told_end ending)
filled_as view takes told old before source source' new state became ending heard =
    rw became (filled view takes told old before source source' new ending heard)
