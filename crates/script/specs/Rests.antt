-- What stands behind the words of a step, as the rest of its line.
use Rattle.std.specs.Prelude.{ℕ, List, [], ◌∷◌, Bool, true, ◌&&◌, is_some, Result, Ok, Err, if◌then◌else◌}
use Rattle.std.specs.List.{join_with_byte}
use Rattle.text_words.specs.Bytes.{space}
use Rattle.text_words.specs.Json.{json_in, string_in, array_in, arguments_in}
use Rattle.text_words.specs.Reading.{words_of}
use Rattle.text_words.specs.Written.{is_line_text}
use Rattle.script.specs.declared.reason.ScriptReason.{ScriptReason}
use Rattle.script.specs.declared.reason.ScriptReason.TheVariants as reason

-- nothing, or a text that has spaces of its own: JSON, the arguments of a call, a JSON string, or a JSON array
pub data Rest : Type 0 where
  nothing : Rest
  json : Rest
  arguments : Rest
  string : Rest
  array : Rest

-- what the rest of a line stands for, apart from its words: a JSON text has more than one spelling, and therefore stands for itself
abbrev pub RestValue : Rest → Type 0
RestValue nothing = Unit {0}
RestValue json = List ℕ
RestValue arguments = List ℕ
RestValue string = List ℕ
RestValue array = List ℕ

-- the words of the rest of a line
abbrev pub write_rest : (r : Rest) → RestValue r → List (List ℕ)
write_rest nothing x = []
write_rest json text = words_of text
write_rest arguments text = words_of text
write_rest string text = words_of text
write_rest array text = words_of text

-- the text that the words behind those of a step are, which has to be there
abbrev pub text_behind : List (List ℕ) → Result (List ℕ) ScriptReason
text_behind [] = Err reason.BadWord
text_behind (word ∷ words) = Ok (join_with_byte space (word ∷ words))

-- a text that has to be of a form too
abbrev pub if_fits : (List ℕ → Bool) → Result (List ℕ) ScriptReason → Result (List ℕ) ScriptReason
if_fits fits (Ok text) = if fits text then Ok text else Err reason.BadJson
if_fits fits (Err why) = Err why

-- whether a text is of its form
abbrev pub is_json : List ℕ → Bool
is_json text = is_some (json_in text)

abbrev pub are_arguments : List ℕ → Bool
are_arguments text = is_some (arguments_in text)

abbrev pub is_string : List ℕ → Bool
is_string text = is_some (string_in text)

abbrev pub is_array : List ℕ → Bool
is_array text = is_some (array_in text)

-- what the words behind those of the step are
abbrev pub read_rest : (r : Rest) → List (List ℕ) → Result (RestValue r) ScriptReason
read_rest nothing [] = Ok tt
read_rest nothing (word ∷ words) = Err reason.BadWord
read_rest json words = if_fits is_json (text_behind words)
read_rest arguments words = if_fits are_arguments (text_behind words)
read_rest string words = if_fits is_string (text_behind words)
read_rest array words = if_fits is_array (text_behind words)

-- a text that stands in a line, whatever it is
abbrev pub is_there : (r : Rest) → RestValue r → Bool
is_there nothing x = true
is_there json text = is_line_text text
is_there arguments text = is_line_text text
is_there string text = is_line_text text
is_there array text = is_line_text text

-- a text that is of its form too
abbrev pub is_of_form : (r : Rest) → RestValue r → Bool
is_of_form nothing x = true
is_of_form json text = is_json text
is_of_form arguments text = are_arguments text
is_of_form string text = is_string text
is_of_form array text = is_array text

abbrev pub is_rest : (r : Rest) → RestValue r → Bool
is_rest r x = is_there r x && is_of_form r x
