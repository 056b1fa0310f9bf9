-- Publications of which a front part was published.
use Rattle.std.proofs.Common.{◌≡◌, List, [], ◌∷◌, ◌++◌, Bool, true, false, refl, sym, ◌∙◌, ap, subst, append_assoc}
use Rattle.std.proofs.lemmas.List.{append-nil}
use Rattle.jmsg_types.specs.declared.publication.Publication.{Publication}
use Rattle.kernel_engine.specs.Growth.{InFront, unless_silent}

-- a front part of publications was published, and the rest waits
pub record Putting (Grew : List Publication → Type 0) (silent : Bool) (all waiting : List Publication) : Type 0 where
  pub front : List Publication
  pub whole : all ≡ front ++ waiting
  pub grew : Grew (unless_silent silent front)

-- nothing is told of nothing
pub told_none : (silent : Bool) → unless_silent silent [] ≡ []
told_none true = refl
told_none false = refl

-- at first nothing was published, and all waits
pub putting_first : (Grew : List Publication → Type 0) (silent : Bool) (all waiting : List Publication)
    → waiting ≡ all → Grew [] → Putting Grew silent all waiting
putting_first Grew silent all waiting same none = record {
  front = [];
  whole = sym same;
  grew = subst Grew (sym (told_none silent)) none;
}

module _ (A B C : List Publication → Type 0) (silent : Bool)
    (join : (xs ys : List Publication) → A (unless_silent silent xs) → B (unless_silent silent ys)
    → C (unless_silent silent (xs ++ ys))) where
  -- one more was published
  pub putting_on : (all waiting rest : List Publication) (one : Publication) → waiting ≡ one ∷ rest
      → Putting A silent all waiting → B (unless_silent silent (one ∷ [])) → Putting C silent all rest
  putting_on all waiting rest one next so_far grew = record {
    front = so_far.front ++ one ∷ [];
    whole = so_far.whole ∙ ap (λ l. so_far.front ++ l) next ∙ sym (append_assoc so_far.front (one ∷ []) rest);
    grew = join so_far.front (one ∷ []) so_far.grew grew;
  }

  -- all were published
  pub putting_done : (all waiting : List Publication) → waiting ≡ [] → Putting A silent all waiting → B []
      → C (unless_silent silent all)
  putting_done all waiting none so_far grew =
      let whole : all ≡ so_far.front = so_far.whole ∙ ap (λ l. so_far.front ++ l) none ∙ append-nil so_far.front in
      subst (λ l. C (unless_silent silent l)) (append-nil all)
      (join all [] (subst (λ l. A (unless_silent silent l)) (sym whole) so_far.grew)
      (subst B (sym (told_none silent)) grew))

  -- the next one wasn't published
  pub putting_cut : (all waiting : List Publication) → Putting A silent all waiting → B [] → InFront C silent all
  putting_cut all waiting so_far grew = record {
    front = so_far.front;
    rest = waiting;
    whole = so_far.whole;
    grew = subst (λ l. C (unless_silent silent l)) (append-nil so_far.front)
        (join so_far.front [] so_far.grew (subst B (sym (told_none silent)) grew));
  }
