use Rattle.std.proofs.Common.{◌≡◌, ap, ◌∙◌}
use Rattle.serde_json.specs.View.{view}
use Rattle.serde_json.specs.Written.{compact_text, has_float}
use Rattle.jmsg_types.specs.Publication.{publication_data}
use Rattle.jmsg_types.proofs.FloatLemmas.{has_float-publication_data}
use Rattle.jmsg_types.proofs.publication.content_text_of_publication.Goals as goal

pub returns-clause-text : goal.returns-clause-text
returns-clause-text c =
    let built : view c.in_ok-value.value ≡ publication_data c.args.publication.now = c.in_ok-value.ensures in
    ap (λ v. v.items) c.into_bytes.ensures.value
    ∙ c.in_ok-to_string.ensures.text (ap has_float built ∙ has_float-publication_data c.args.publication.now)
    ∙ ap compact_text built
