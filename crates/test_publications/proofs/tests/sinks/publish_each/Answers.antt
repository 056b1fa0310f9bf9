-- The items in front of the one that comes back are those that were taken before it.
use Rattle.std.proofs.Common.{refl}
use Rattle.std.proofs.lemmas.Result.{err_from_is_err_and}
use Rattle.test_publications.proofs.tests.sinks.publish_each.Goals as goal

pub returns-in_err-publish-clause-front : goal.returns-in_err-publish-clause-front
returns-in_err-publish-clause-front g c =
    let returned = err_from_is_err_and c.from_residual.result c.from_residual.ensures.1 in
    rw (returned.1, returned.2, c.in_err-publish.ensures.returned) (
      c.loop-item.yielded,
      c.next.new.self.rest.items,
      rw (c.loop-item.invariant.whole, c.in-Some.ensures.steps.0) refl,
      rw (c.in_err-publish.ensures.unpublished, c.loop-item.invariant.published) refl,
    )
