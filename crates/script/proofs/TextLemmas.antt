-- The text of a whole line.
use Rattle.std.proofs.Common.{◌≡◌, true, false, Ok, Err, refl}
use Rattle.std.specs.Prelude.{IsUtf8}
use Rattle.std.specs.Str.{is_utf8}
use Rattle.std.proofs.lemmas.Str.{IsUtf8-from_is_utf8, is_utf8-from_IsUtf8}
use Rattle.script.specs.declared.reason.ScriptReason.TheVariants as reason
use Rattle.script.specs.Lines.{TextLine}
use Rattle.script.specs.Steps.{text_in}
use Rattle.text_words.proofs.ByteTests.{not_true}

pub text_in-other : (line : TextLine) → ¬ (IsUtf8 line.text) → text_in line ≡ Err reason.NotUtf8
unfolding text_in
text_in-other line h = rw (not_true (is_utf8 line.text) (λ e. h (IsUtf8-from_is_utf8 line.text e))) refl

pub text_in-ended : (line : TextLine) → IsUtf8 line.text → line.has_end ≡ true → text_in line ≡ Ok line.text
unfolding text_in
text_in-ended line h e = rw (is_utf8-from_IsUtf8 line.text h, e) refl

pub text_in-open : (line : TextLine) → IsUtf8 line.text → line.has_end ≡ false → text_in line ≡ Err reason.NoLineEnd
unfolding text_in
text_in-open line h e = rw (is_utf8-from_IsUtf8 line.text h, e) refl

pub ruleset texts = (text_in-other, text_in-ended, text_in-open)
