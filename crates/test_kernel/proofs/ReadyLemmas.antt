-- A queue of three that is used stays that queue, and the rest of its tokens is the door's.
use Rattle.std.proofs.Common.{◌≡◌, ◌⊎◌, inl, inr, ℕ, zero, suc, ◌+◌, ◌<◌, ◌≤◌, List, [], ◌∷◌, length, arith, sym, subst}
use Rattle.std.proofs.Common.{ap, ◌∙◌}
use Rattle.iopub_event.specs.declared.event.Event.{Event}
use Rattle.iopub_queue.specs.Values.{Publishing, Taking}
use Rattle.iopub_relay.specs.Relay.{HasNumber}
use Rattle.kernel_workers.specs.Shutdown.{IsRest}
use Rattle.kernel_workers.specs.Starting.{IsOpened}
use Rattle.test_kernel.specs.Ready.{AreOfOne, IsLast}

module _ {T : Type 0} where
  -- what was just opened is of one queue
  pub of_opened : (shell control door : Publishing T) (taker : Taking T) → IsOpened shell control door taker
      → AreOfOne shell control door taker
  of_opened shell control door taker opened = record {
    shell_queue = ap (λ (p : Publishing T). p.queue) opened.shell_is;
    control_queue = ap (λ (p : Publishing T). p.queue) opened.control_is;
    door_queue = ap (λ (p : Publishing T). p.queue) opened.subscriptions_are;
    shell_is = ap (λ (p : Publishing T). p.number) opened.shell_is;
    control_is = ap (λ (p : Publishing T). p.number) opened.control_is;
    door_is = ap (λ (p : Publishing T). p.number) opened.subscriptions_are;
    count = ap (λ (t : Taking T). t.count) opened.taker_is;
  }

  -- what is the same as three publishers and the taker of one queue is of one queue
  pub of_one_on : (shell control door new_shell new_control new_door : Publishing T) (taker new_taker : Taking T)
      → AreOfOne shell control door taker
      → (new_shell.queue ≡ shell.queue) × (new_shell.number ≡ shell.number)
      → (new_control.queue ≡ control.queue) × (new_control.number ≡ control.number)
      → (new_door.queue ≡ door.queue) × (new_door.number ≡ door.number)
      → (new_taker.queue ≡ taker.queue) × (new_taker.count ≡ taker.count)
      → AreOfOne new_shell new_control new_door new_taker
  of_one_on shell control door new_shell new_control new_door taker new_taker of_one by_shell by_control by_door
      by_taker = record {
        shell_queue = by_shell.0 ∙ of_one.shell_queue ∙ sym by_taker.0;
        control_queue = by_control.0 ∙ of_one.control_queue ∙ sym by_taker.0;
        door_queue = by_door.0 ∙ of_one.door_queue ∙ sym by_taker.0;
        shell_is = by_shell.1 ∙ of_one.shell_is;
        control_is = by_control.1 ∙ of_one.control_is;
        door_is = by_door.1 ∙ of_one.door_is;
        count = by_taker.1 ∙ of_one.count;
      }

-- each number below three is shell's, control's or the door's
one_of : (shell control door number : ℕ) → shell ≡ 0 → control ≡ 1 → door ≡ 2 → number < 3
    → ((number ≡ shell) ⊎ (number ≡ control)) ⊎ (door ≡ number)
one_of shell control door zero shell_is control_is door_is below = inl (inl (sym shell_is))
one_of shell control door (suc zero) shell_is control_is door_is below = inl (inr (sym control_is))
one_of shell control door (suc (suc zero)) shell_is control_is door_is below = inr door_is
one_of shell control door (suc (suc (suc number))) shell_is control_is door_is below = absurd (omega (arith, below))

module _ {W : Type 0} where
  -- the door's token is that of all others
  pub is_rest : (shell control door : Publishing (Event W)) (taker : Taking (Event W))
      (tokens : List (Publishing (Event W))) → AreOfOne shell control door taker → IsLast door tokens
      → IsRest taker shell.number control.number tokens
  is_rest shell control door taker tokens of_one last =
      rw (last.alone) (record {
        queue = (last.queue ∙ of_one.door_queue, tt);
        each = λ number below. has_last (one_of shell.number control.number last.closed.number number of_one.shell_is
            of_one.control_is (last.number ∙ of_one.door_is)
            (subst (λ (n : ℕ). number < n) of_one.count below));
      }) where
        has_last : {A : Type 0} {number : ℕ} → A ⊎ (last.closed.number ≡ number)
            → A ⊎ HasNumber number (last.closed ∷ [])
        has_last (inl a) = inl a
        has_last (inr is) = inr (inl is)
