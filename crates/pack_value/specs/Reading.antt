-- Reading values from left to right, with the first fault that is met.
use Rattle.std.specs.Prelude.{ℕ, zero, suc, List, [], ◌∷◌, length, drop, Ok, Err, Option, Some, None, nat_lt, ◌==◌, if◌then◌else◌}
use Rattle.std.specs.Str.{is_utf8}
use Rattle.wire_base.specs.Tree.{Tree, nil, flag, whole, words, bytes, items, pairs, trees_of, pairs_of}
use Rattle.wire_base.specs.declared.reason.Reason.{Reason}
use Rattle.wire_base.specs.declared.reason.Reason.TheVariants.{TooLong, TooDeep, BadUtf8, KeyNotText}
use Rattle.wire_base.specs.declared.token.TokenHead.{TokenHead}
use Rattle.wire_base.specs.declared.token.TokenHead.TheVariants as token
use Rattle.wire_base.specs.declared.token.HeadStep.{HeadStep}
use Rattle.wire_base.specs.declared.token.HeadStep.TheVariants as step
use Rattle.wire_base.specs.Head.{kind_of, head_of}
use Rattle.wire_base.specs.declared.reading.Fault.{Fault}
use Rattle.wire_base.specs.declared.reading.Fault.TheVariants.{Ends, Breaks}
use Rattle.wire_base.specs.Tokens.{Reading, Reader, follow, ◌>>=◌, done, is_str, bytes_at}
use Rattle.pack_value.specs.Spelling.{max_len}
use Rattle.pack_value.specs.Tokens.{Want, value, key, opens, place_rule}

-- A length or count that is allowed, or a refusal of a token that begins left bytes before the end.
abbrev pub counted : {A : Type 0} → ℕ → ℕ → Reading A → Reading A
counted left n read = if nat_lt max_len n then Err (Breaks left TooLong) else read

-- n bytes of a token that begins left bytes before the end.
unfoldable pub run_at : ℕ → ℕ → Reader (List ℕ)
run_at left n rest = counted left n (bytes_at n rest)

unfoldable pub text_at : ℕ → ℕ → Reader (List ℕ)
text_at left n = run_at left n >>= λ s rest. if is_utf8 s then Ok (s, rest) else Err (Breaks left BadUtf8)

abbrev pub fault_of : Option Reason → ℕ → Fault
fault_of (Some r) left = Breaks left r
fault_of None left = Ends

-- What the first byte of a head that isn't whole says.
unfoldable pub cut_head : Want → List ℕ → Fault
cut_head w [] = Ends
cut_head w (b ∷ rest) = fault_of (place_rule w (opens (kind_of b)) (is_str (kind_of b))) (length (b ∷ rest))

-- Why an array or map is no key where so many levels are left.
abbrev pub nested_key : ℕ → Reason
nested_key d = if d == 0 then TooDeep else KeyNotText

abbrev pub key_of : ℕ → HeadStep → Reader (List ℕ)
key_of d step.Short rest = Err (cut_head (key d) rest)
key_of d (step.Refused r) rest = Err (Breaks (length rest) r)
key_of d (step.Got token.Nil n) rest = Err (Breaks (length rest) KeyNotText)
key_of d (step.Got (token.Flag b) n) rest = Err (Breaks (length rest) KeyNotText)
key_of d (step.Got (token.Whole z) n) rest = Err (Breaks (length rest) KeyNotText)
key_of d (step.Got (token.Str len) n) rest = text_at (length rest) len (drop n rest)
key_of d (step.Got (token.Bin len) n) rest = Err (Breaks (length rest) KeyNotText)
key_of d (step.Got (token.Array len) n) rest = Err (Breaks (length rest) (nested_key d))
key_of d (step.Got (token.Map len) n) rest = Err (Breaks (length rest) (nested_key d))

unfoldable pub key_at : ℕ → Reader (List ℕ)
key_at d rest = key_of d (head_of rest) rest

-- So many of them, one after the other.
unfoldable pub repeat : {A : Type 0} → Reader A → ℕ → Reader (List A)
repeat read zero = done []
repeat read (suc n) = read >>= λ x. repeat read n >>= λ xs. done (x ∷ xs)

-- A key and its value.
unfoldable pub pair_at : ℕ → Reader Tree → Reader (List ℕ × Tree)
pair_at d read = key_at d >>= λ k. read >>= λ x. done (k, x)

-- What stands behind a head, with what reads the items and the pairs in it.
unfoldable pub behind : (ℕ → Reader (List Tree)) → (ℕ → Reader (List (List ℕ × Tree))) → ℕ → TokenHead → Reader Tree
behind is ps left token.Nil rest = done nil rest
behind is ps left (token.Flag b) rest = done (flag b) rest
behind is ps left (token.Whole z) rest = done (whole z) rest
behind is ps left (token.Str n) rest = follow (text_at left n rest) (λ s. done (words s))
behind is ps left (token.Bin n) rest = follow (run_at left n rest) (λ s. done (bytes s))
behind is ps left (token.Array n) rest = follow (is n rest) (λ ts. done (items (trees_of ts)))
behind is ps left (token.Map n) rest = follow (ps n rest) (λ ps. done (pairs (pairs_of ps)))

abbrev pub at_head : ℕ → (ℕ → Reader (List Tree)) → (ℕ → Reader (List (List ℕ × Tree))) → HeadStep → Reader Tree
at_head d is ps step.Short rest = Err (cut_head (value d) rest)
at_head d is ps (step.Refused r) rest = Err (Breaks (length rest) r)
at_head d is ps (step.Got h n) rest = behind is ps (length rest) h (drop n rest)

abbrev pub too_deep : {A : Type 0} → ℕ → ℕ → Reader A
too_deep left n rest = Err (Breaks left TooDeep)

-- So many of them, if that is allowed.
abbrev pub counted_of : {A : Type 0} → ℕ → Reader A → ℕ → Reader (List A)
counted_of left read n rest = counted left n (repeat read n rest)

-- A value where so many levels of arrays and maps are left.
unfoldable pub value_at : ℕ → Reader Tree
value_at zero rest = at_head zero (too_deep (length rest)) (too_deep (length rest)) (head_of rest) rest
value_at (suc d) rest = at_head (suc d) (counted_of (length rest) (value_at d)) (counted_of (length rest) (pair_at d (value_at d))) (head_of rest) rest

-- What reads the items and the pairs where so many levels are left.
unfoldable pub items_at : ℕ → ℕ → ℕ → Reader (List Tree)
items_at zero left n rest = Err (Breaks left TooDeep)
items_at (suc d) left n rest = counted_of left (value_at d) n rest

unfoldable pub pairs_at : ℕ → ℕ → ℕ → Reader (List (List ℕ × Tree))
pairs_at zero left n rest = Err (Breaks left TooDeep)
pairs_at (suc d) left n rest = counted_of left (pair_at d (value_at d)) n rest
