-- How a script is written.
use Rattle.std.specs.Prelude.{◌≡◌, ℕ, ◌+◌, ◌≤◌, List, [], ◌∷◌, ◌++◌, Bool, true, false, ◌&&◌, if◌then◌else◌, codes, length, map, replicate}
use Rattle.std.specs.List.{list_all, flat_map, join_with_byte}
use Rattle.wire_base.specs.declared.frame.Version.{Version}
use Rattle.wire_base.specs.declared.frame.Version.TheVariants as version
use Rattle.mux_run.specs.declared.steps.Side.{Side}
use Rattle.mux_run.specs.declared.steps.Side.TheVariants.{A, B}
use Rattle.endpoint_run.specs.declared.steps.Step.{Step}
use Rattle.mux_run.specs.Run.{Terms}
use Rattle.text_words.specs.Bytes.{space}
use Rattle.mux_items.specs.Limits.{nonce_size}
use Rattle.text_words.specs.Written.{side_word, bytes_word, line_feed, is_nonce}
use Rattle.text_words.specs.Forms.{FormValues, write_forms, are_values}
use Rattle.script.specs.declared.line_step.LineStep.{LineStep}
use Rattle.script.specs.declared.step_word.StepWord.{StepWord}
use Rattle.script.specs.Limits.{most_steps, most_filled}
use Rattle.script.specs.Rests.{RestValue, write_rest, is_rest, is_there}
use Rattle.script.specs.Table.{word_text, forms_of, rest_of, meaning}

-- a line that is a step: its step word, a value for each form behind it, and the rest of the line
pub record StepLine : Type 0 where
  pub word : StepWord
  pub values : FormValues (forms_of word)
  pub rest : RestValue (rest_of word)

-- what a line means
abbrev pub meant_by : StepLine → LineStep
meant_by line = meaning line.word line.values line.rest

-- the step of a line
abbrev pub step_of : StepLine → Step
step_of line = (meant_by line).step

-- how many bytes a line fills in
abbrev pub filled_by : StepLine → ℕ
filled_by line = (meant_by line).filled

-- the words of a line
abbrev pub line_words : StepLine → List (List ℕ)
line_words line = word_text line.word ∷ write_forms (forms_of line.word) line.values ++ write_rest (rest_of line.word) line.rest

-- those words, joined by single spaces
abbrev pub line_text : StepLine → List ℕ
line_text line = join_with_byte space (line_words line)

-- a line and the line feed that ends it
abbrev pub ended : List ℕ → List ℕ
ended text = text ++ line_feed

-- how a version is written
abbrev pub version_line : Version → List ℕ
version_line version.One = codes "version 1"
version_line version.Two = codes "version 2"
version_line version.Three = codes "version 3"

-- whether the ends of a version have nonces
abbrev pub has_nonces : Version → Bool
has_nonces version.One = true
has_nonces version.Two = true
has_nonces version.Three = false

-- the words of a side's nonce: its letter, and two hex digits in lower case for each byte
abbrev pub nonce_words : Side → List ℕ → List (List ℕ)
nonce_words side nonce = codes "nonce" ∷ side_word side ∷ bytes_word nonce ∷ []

-- those words, joined by single spaces
abbrev pub nonce_line : Side → List ℕ → List ℕ
nonce_line side nonce = join_with_byte space (nonce_words side nonce)

-- the lines of the nonces, A's before B's, where the version has any
abbrev pub nonce_lines : Terms → List (List ℕ)
nonce_lines terms = if has_nonces terms.version then nonce_line A terms.nonce_a ∷ nonce_line B terms.nonce_b ∷ [] else []

-- the first line names the format, the second the version, and those of the nonces follow
abbrev pub head_lines : Terms → List (List ℕ)
head_lines terms = codes "script 1" ∷ version_line terms.version ∷ nonce_lines terms

-- the text of those lines
abbrev pub head_text : Terms → List ℕ
head_text terms = flat_map ended (head_lines terms)

-- the lines of a script: those of its head, and one for each step
abbrev pub script_lines : Terms → List StepLine → List (List ℕ)
script_lines terms lines = head_lines terms ++ map line_text lines

-- the text of those lines
abbrev pub script_text : Terms → List StepLine → List ℕ
script_text terms lines = flat_map ended (script_lines terms lines)

-- the steps of a script
abbrev pub steps_of : List StepLine → List Step
steps_of lines = map step_of lines

-- how many bytes all lines of a script fill in
abbrev pub filled_in : List StepLine → ℕ
filled_in [] = 0
filled_in (line ∷ lines) = filled_by line + filled_in lines

-- what stands for the nonce of a side that has none
abbrev pub no_nonce : List ℕ
no_nonce = replicate nonce_size 0

-- both are nonces; in version 3, which has none, they are zeros
pub record AreTerms (terms : Terms) : Type 0 where
  pub a : is_nonce terms.nonce_a ≡ true
  pub b : is_nonce terms.nonce_b ≡ true
  pub none_a : has_nonces terms.version ≡ false → terms.nonce_a ≡ no_nonce
  pub none_b : has_nonces terms.version ≡ false → terms.nonce_b ≡ no_nonce

-- each value of the line has a word, and the rest of the line is of its form
abbrev pub is_spellable : StepLine → Bool
is_spellable line = are_values (forms_of line.word) line.values && is_rest (rest_of line.word) line.rest

-- the same, whatever the rest of the line is
abbrev pub is_worded : StepLine → Bool
is_worded line = are_values (forms_of line.word) line.values && is_there (rest_of line.word) line.rest

-- lines that stand in a script
pub record AreScripted (lines : List StepLine) : Type 0 where
  pub spellable : list_all is_spellable lines ≡ true
  pub few : length lines ≤ most_steps
  pub within : filled_in lines ≤ most_filled
