use Rattle.std.proofs.Common.{rules, ◌≡◌, ◌∙◌, ap, sym, to_z, of_z, w64, Some, None}
use Rattle.std.specs.Option.{option_copied_mut}
use Rattle.std.specs.BTreeMap.{insert_entry}
use Rattle.std.specs.Prelude.{string_bytes}
use Rattle.std.proofs.lemmas.Int.{to_z-of_z}
use Rattle.std.proofs.lemmas.Result.{err_from_is_err_and}
use Rattle.arith_value.specs.Variables.{shown, find, assign, name_order}
use Rattle.arith_value.proofs.VariablesLemmas.{looked_up, set_shown, insert_shown, assign_there, assign_new}
use Rattle.arith_value.proofs.variables.put.Goals as goal

pub returns-in-Some : goal.returns-in-Some
returns-in-Some c =
    let same : to_z w64 (of_z w64 c.args.value) ≡ c.args.value = to_z-of_z w64 c.args.value c.ranges.value in
    let found : find c.args.name.now (shown c.args.values.now.entries) ≡ Some c.in-Some.place.now =
    looked_up c.args.name.now c.args.values.now.entries _
    (sym (ap option_copied_mut c.in-Some.is) ∙ c.get_mut.ensures.value) in
    ap shown (c.get_mut.follows.holds (to_z w64 (of_z w64 c.args.value))).0
    ∙ set_shown c.args.name.now c.args.values.now.entries _
    ∙ sym (assign_there c.args.name.now (shown c.args.values.now.entries) _ _ found)
    ∙ ap (λ v. assign c.args.name.now v (shown c.args.values.now.entries)) same

pub returns : goal.returns
returns c =
    let absent : find c.args.name.now (shown c.args.values.now.entries) ≡ None =
    looked_up c.args.name.now c.args.values.now.entries _
    (sym (ap option_copied_mut c.in_default.is) ∙ c.get_mut.ensures.value) in
    let unchanged : c.get_mut.follows.lender-at-none.entries ≡ c.args.values.now.entries = search rules in
    ap shown c.in_ok-insert.ensures.entries
    ∙ insert_shown c.in_ok-key.key c.get_mut.follows.lender-at-none.entries _
    ∙ ap (λ entries. insert_entry name_order (shown entries) (string_bytes c.in_ok-key.key)
    (to_z w64 (of_z w64 c.args.value))) unchanged
    ∙ ap (λ name. insert_entry name_order (shown c.args.values.now.entries) name (to_z w64 (of_z w64 c.args.value)))
    c.in_ok-key.ensures.ok
    ∙ sym (assign_new c.args.name.now (shown c.args.values.now.entries) _ absent)
    ∙ ap (λ v. assign c.args.name.now v (shown c.args.values.now.entries)) (to_z-of_z w64 c.args.value c.ranges.value)

pub returns-in_err-key : goal.returns-in_err-key
returns-in_err-key c =
    let absent : find c.args.name.now (shown c.args.values.now.entries) ≡ None =
    looked_up c.args.name.now c.args.values.now.entries _
    (sym (ap option_copied_mut c.in_default.is) ∙ c.get_mut.ensures.value) in
    let unchanged : c.get_mut.follows.lender-at-none.entries ≡ c.args.values.now.entries = search rules in
    let fault = err_from_is_err_and c.from_residual.result c.from_residual.ensures.1 in
    rw (fault.1, fault.2) (absent, ap shown unchanged)

pub returns-in_err-insert : goal.returns-in_err-insert
returns-in_err-insert c =
    let absent : find c.args.name.now (shown c.args.values.now.entries) ≡ None =
    looked_up c.args.name.now c.args.values.now.entries _
    (sym (ap option_copied_mut c.in_default.is) ∙ c.get_mut.ensures.value) in
    let unchanged : c.insert.new.self.entries ≡ c.args.values.now.entries = search rules in
    let fault = err_from_is_err_and c.from_residual-in_err-insert.result c.from_residual-in_err-insert.ensures.1 in
    rw (fault.1, fault.2) (absent, ap shown unchanged)
