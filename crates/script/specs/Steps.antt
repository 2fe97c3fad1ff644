-- What a line of a script stands for.
use Rattle.std.specs.Prelude.{ℕ, ◌+◌, nat_lt, nat_le, List, [], ◌∷◌, Bool, false, ◌&&◌, Option, Some, None, Result, Ok, Err, if◌then◌else◌, codes}
use Rattle.std.specs.Option.{ok_or}
use Rattle.std.specs.List.{list_any}
use Rattle.std.specs.Str.{is_utf8, bytes_eq}
use Rattle.mux_run.specs.declared.steps.Side.{Side}
use Rattle.wire_base.specs.declared.frame.Version.{Version}
use Rattle.wire_base.specs.declared.frame.Version.TheVariants as version
use Rattle.text_words.specs.Forms.{FormValues, read_front}
use Rattle.text_words.specs.Reading.{words_of, nonce_in}
use Rattle.text_words.specs.Written.{side_word}
use Rattle.script.specs.declared.reason.ScriptReason.{ScriptReason}
use Rattle.script.specs.declared.reason.ScriptReason.TheVariants as reason
use Rattle.script.specs.declared.line_step.LineStep.{LineStep}
use Rattle.script.specs.declared.step_word.StepWord.{StepWord}
use Rattle.script.specs.Limits.{most_steps, most_filled}
use Rattle.script.specs.Lines.{TextLine}
use Rattle.script.specs.Rests.{RestValue, read_rest}
use Rattle.script.specs.Table.{word_text, step_words, forms_of, rest_of, meaning}

-- the first of these step words that is written so
abbrev pub word_among : List StepWord → List ℕ → Option StepWord
word_among [] text = None
word_among (w ∷ ws) text = if bytes_eq text (word_text w) then Some w else word_among ws text

-- the step word that is written so
unfoldable pub step_word_in : List ℕ → Option StepWord
step_word_in text = word_among step_words text

-- what the words behind a step word mean, with the rest of the line
abbrev pub step_with : (w : StepWord) → FormValues (forms_of w) → Result (RestValue (rest_of w)) ScriptReason → Result LineStep ScriptReason
step_with w values (Ok rest) = Ok (meaning w values rest)
step_with w values (Err why) = Err why

abbrev pub step_from : (w : StepWord) → Option (FormValues (forms_of w) × List (List ℕ)) → Result LineStep ScriptReason
step_from w (Some front) = step_with w front.0 (read_rest (rest_of w) front.1)
step_from w None = Err reason.BadWord

-- what a step word and the words behind it mean
unfoldable pub step_by : StepWord → List (List ℕ) → Result LineStep ScriptReason
step_by w words = step_from w (read_front (forms_of w) words)

-- the same, where the first word is one
abbrev pub step_behind : Option StepWord → List (List ℕ) → Result LineStep ScriptReason
step_behind (Some w) words = step_by w words
step_behind None words = Err reason.UnknownStep

-- what a line's words mean, or why they mean nothing
unfoldable pub step_in : List (List ℕ) → Result LineStep ScriptReason
step_in [] = Err reason.UnknownStep
step_in (first ∷ words) = step_behind (step_word_in first) words

-- the first word is a step word
abbrev pub begins_step : List (List ℕ) → Bool
begins_step [] = false
begins_step (first ∷ words) = list_any (λ w. bytes_eq first (word_text w)) step_words

-- the next answer, behind an answer without a fault
abbrev pub on_ok : {X Y : Type 0} → Result X ScriptReason → (X → Result Y ScriptReason) → Result Y ScriptReason
on_ok (Ok x) f = f x
on_ok (Err fault) f = Err fault

-- the line behind lines that filled in so many bytes, if that isn't too much together
unfoldable pub filling : ℕ → LineStep → Result LineStep ScriptReason
filling filled line = if nat_le (filled + line.filled) most_filled then Ok line else Err reason.BadWord

-- the text of a whole line
unfoldable pub text_in : TextLine → Result (List ℕ) ScriptReason
text_in line = if is_utf8 line.text then (if line.has_end then Ok line.text else Err reason.NoLineEnd) else Err reason.NotUtf8

-- the step of a line behind so many steps, which filled in so many bytes
unfoldable pub step_after : ℕ → ℕ → TextLine → Result LineStep ScriptReason
step_after steps filled line = on_ok (text_in line) (λ text.
    if nat_lt steps most_steps then on_ok (step_in (words_of text)) (filling filled) else Err reason.TooManySteps)

-- the first line
unfoldable pub format_in : List ℕ → Result (Unit {0}) ScriptReason
format_in text = if bytes_eq text (codes "script 1") then Ok tt else Err reason.BadHead

-- the second line
unfoldable pub version_in : List ℕ → Result Version ScriptReason
version_in text =
    if bytes_eq text (codes "version 1") then Ok version.One
    else if bytes_eq text (codes "version 2") then Ok version.Two
    else if bytes_eq text (codes "version 3") then Ok version.Three
    else Err reason.BadHead

-- a side's nonce from the words of its line
unfoldable pub nonce_of : Side → List (List ℕ) → Option (List ℕ)
nonce_of side (first ∷ letter ∷ digits ∷ []) = if bytes_eq first (codes "nonce") && bytes_eq letter (side_word side) then nonce_in digits else None
nonce_of side words = None

-- the line of a side's nonce
unfoldable pub nonce_line_in : Side → List ℕ → Result (List ℕ) ScriptReason
nonce_line_in side text = ok_or (nonce_of side (words_of text)) reason.BadHead
