-- No content that is written has a number with a fraction, so its printed text is known to the letter.
use Rattle.std.proofs.Common.{◌≡◌, ℕ, List, [], ◌∷◌, false, Some, None, map, nat_cmp, Ordering, Less, Equal, Greater}
use Rattle.std.proofs.Common.{refl}
use Rattle.std.proofs.lemmas.Bool.{or_parts}
use Rattle.std.specs.Cmp.Lexicographic.{slice_cmp}
use Rattle.std.specs.Ordering.{match_ordering}
use Rattle.serde_json.specs.Data.{Data, string, Members, member, no_members, put}
use Rattle.serde_json.specs.View.{items_of}
use Rattle.serde_json.specs.Written.{has_float, items_have_float, members_have_float}
use Rattle.jmsg_types.specs.Reply.{reply_data, shown_data, values_members}
use Rattle.jmsg_types.specs.Publication.{publication_data}
use Rattle.jmsg_types.specs.declared.reply.Reply.{Reply}
use Rattle.jmsg_types.specs.declared.reply.Reply.TheVariants as tells
use Rattle.jmsg_types.specs.declared.reply.Shown.{Shown}
use Rattle.jmsg_types.specs.declared.reply.Shown.TheVariants as shows
use Rattle.jmsg_types.specs.declared.reply.Verdict.TheVariants as is
use Rattle.jmsg_types.specs.declared.publication.Publication.{Publication}
use Rattle.jmsg_types.specs.declared.publication.Publication.TheVariants as said

-- a list of texts
items_have_float-texts : (texts : List (List ℕ)) → items_have_float (items_of (map string texts)) ≡ false
items_have_float-texts [] = refl
items_have_float-texts (text ∷ texts) = items_have_float-texts texts

-- members with one more or another
members_have_float-at : (order : Ordering) (name key : List ℕ) (value old : Data) (rest later : Members)
    → has_float value ≡ false → has_float old ≡ false → members_have_float rest ≡ false → members_have_float later
    ≡ false
    → members_have_float (match_ordering order (member name value (member key old rest)) (member key value rest)
    (member key old later)) ≡ false
members_have_float-at Less name key value old rest later v o r l = rw (v, o, r) refl
members_have_float-at Equal name key value old rest later v o r l = rw (v, r) refl
members_have_float-at Greater name key value old rest later v o r l = rw (o, l) refl

members_have_float-put : (name : List ℕ) (value : Data) (members : Members) → has_float value ≡ false
    → members_have_float members ≡ false
    → members_have_float (put name value members) ≡ false
members_have_float-put name value no_members v h = rw v refl
members_have_float-put name value (member key old rest) v h =
    let parts = or_parts (has_float old) (members_have_float rest) h in
    members_have_float-at (slice_cmp nat_cmp name key) name key value old rest (put name value rest) v parts.0 parts.1
    (members_have_float-put name value rest v parts.1)

-- what a user expression came to
has_float-shown_data : (shown : Shown) → has_float (shown_data shown) ≡ false
has_float-shown_data (shows.Text text) = refl
has_float-shown_data (shows.Fault ename evalue) = refl

members_have_float-values_members : (values : List (List ℕ × Shown)) (found : Members) → members_have_float found
    ≡ false
    → members_have_float (values_members values found) ≡ false
members_have_float-values_members [] found h = h
members_have_float-values_members (value ∷ values) found h =
    members_have_float-values_members values (put value.0 (shown_data value.1) found)
    (members_have_float-put value.0 (shown_data value.1) found (has_float-shown_data value.1) h)

-- a reply
pub has_float-reply_data : (reply : Reply) → has_float (reply_data reply) ≡ false
has_float-reply_data (tells.KernelInfo banner file_extension mimetype name version) = refl
has_float-reply_data (tells.ExecuteOk count values) = rw (members_have_float-values_members values no_members refl) refl
has_float-reply_data (tells.ExecuteError ename evalue count) = refl
has_float-reply_data (tells.Error ename evalue) = refl
has_float-reply_data (tells.Complete matches start end) = rw (items_have_float-texts matches) refl
has_float-reply_data (tells.Inspect None) = refl
has_float-reply_data (tells.Inspect (Some text)) = refl
has_float-reply_data (tells.IsComplete is.Complete) = refl
has_float-reply_data (tells.IsComplete is.Incomplete) = refl
has_float-reply_data (tells.IsComplete is.Invalid) = refl
has_float-reply_data tells.History = refl
has_float-reply_data tells.CommInfo = refl
has_float-reply_data (tells.Shutdown restart) = refl
has_float-reply_data tells.Interrupt = refl

-- a publication
pub has_float-publication_data : (publication : Publication) → has_float (publication_data publication) ≡ false
has_float-publication_data (said.Status state) = refl
has_float-publication_data (said.ExecuteInput code count) = refl
has_float-publication_data (said.Stream err text) = refl
has_float-publication_data (said.ExecuteResult text count) = refl
has_float-publication_data (said.Display text shown) = refl
has_float-publication_data (said.DisplayHtml text html) = refl
has_float-publication_data (said.Error ename evalue) = refl
has_float-publication_data (said.CommClose comm_id) = refl
