use Rattle.std.proofs.Common.{◌≡◌, true, ap, refl}
use Rattle.std.specs.Prelude.{string_bytes}
use Rattle.std.specs.Str.{is_utf8}
use Rattle.std.proofs.lemmas.Str.{IsUtf8-string_bytes, is_utf8-from_IsUtf8}
use Rattle.relay_frames.proofs.Texts.{is_utf8-false}
use Rattle.relay_frames.proofs.begun.text_event.Goals as goal

pub returns-in-Ok : goal.returns-in-Ok
returns-in-Ok c =
    let same : string_bytes c.in-Ok.text ≡ c.args.bytes.items = ap (λ v. v.items) c.in-Ok.ensures.ok in
    let whole : is_utf8 c.args.bytes.items ≡ true = rw (← same) (is_utf8-from_IsUtf8 _ (IsUtf8-string_bytes c.in-Ok.text)) in
    rw (whole, same) refl

pub returns : goal.returns
returns c = rw (is_utf8-false c.args.bytes.items (λ whole. cc (c.in-Err.ensures.succeeds whole))) refl
