use Rattle.std.proofs.Common.{◌≡◌, inr, sym, ◌∙◌}
use Rattle.std.proofs.lemmas.Bool.{false≢true}
use Rattle.hex.specs.Hex.{encode_lower}
use Rattle.jmsg_envelope.specs.Envelope.{signed_octets}
use Rattle.jmsg_envelope.specs.Hmac.{hmac}
use Rattle.jmsg_envelope.specs.Split.{signed_parts_of}
use Rattle.jmsg_envelope.proofs.HexCase.{lower-encode_lower}
use Rattle.jmsg_envelope.proofs.opening.is_signed.Goals as goal

pub returns-clause-right : goal.returns-clause-right
returns-clause-right c right =
    let octets = signed_octets (signed_parts_of c.args.signed) in
    let digits : c.digits_of-digits.result ≡ encode_lower (hmac c.args.signer.now octets) =
    c.digits_of-digits.ensures in
    let same = rw digits at (c.are_same_digits.ensures.0 right) in
    inr (same ∙ lower-encode_lower (hmac c.args.signer.now octets))

pub returns-clause-wrong : goal.returns-clause-wrong
returns-clause-wrong c wrong =
    let octets = signed_octets (signed_parts_of c.args.signed) in
    let digits : c.digits_of-digits.result ≡ encode_lower (hmac c.args.signer.now octets) =
    c.digits_of-digits.ensures in
    let lower = lower-encode_lower (hmac c.args.signer.now octets) in
    record {
      keyed = λ none. false≢true (c.if-is_keyless.ensures.1 none);
      differs = λ same. false≢true (sym wrong ∙ c.are_same_digits.ensures.1 (rw digits (same ∙ sym lower)));
    }
