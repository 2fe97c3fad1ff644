-- The rules that tokens keep, and the first token, left to right, that breaks one (MessagePack specification, "Formats").
use Rattle.std.specs.Prelude.{◌≡◌, ℕ, zero, suc, ◌+◌, List, [], ◌∷◌, ◌++◌, length, take, drop, Bool, true, false, ◌&&◌, not, ◌==◌, nat_lt, if◌then◌else◌, Option, Some, None}
use Rattle.std.specs.Str.{is_utf8}
use Rattle.wire_base.specs.declared.reason.Reason.{Reason}
use Rattle.wire_base.specs.declared.reason.Reason.TheVariants.{TooLong, TooDeep, BadUtf8, KeyNotText}
use Rattle.wire_base.specs.declared.token.TokenHead.{TokenHead}
use Rattle.wire_base.specs.declared.token.TokenHead.TheVariants as token
use Rattle.wire_base.specs.declared.token.HeadStep.{HeadStep}
use Rattle.wire_base.specs.declared.token.HeadStep.TheVariants as step
use Rattle.wire_base.specs.Head.{Kind, whole_head, array, map, refused, kind_of, head_of}
use Rattle.wire_base.specs.Rules.{body_size}
use Rattle.wire_base.specs.Tokens.{is_str}
use Rattle.wire_base.specs.Values.{max_nesting}
use Rattle.pack_value.specs.Spelling.{max_len}

-- What may stand at a place, a value or a map's key, with so many levels of arrays and maps left.
pub data Want : Type 0 where
  value : ℕ → Want
  key : ℕ → Want

-- The levels that are left.
abbrev pub levels : Want → ℕ
levels (value d) = d
levels (key d) = d

abbrev pub is_key : Want → Bool
is_key (value d) = false
is_key (key d) = true

-- The first byte begins an array or a map.
abbrev pub opens : Kind → Bool
opens (whole_head (token.Array n)) = true
opens (whole_head (token.Map n)) = true
opens (array w) = true
opens (map w) = true
opens k = false

-- What an array or map, and a token that is no str, break by where they stand.
abbrev pub place_rule : Want → Bool → Bool → Option Reason
place_rule w nests text =
    if nests && levels w == 0 then Some TooDeep
    else if is_key w && not text then Some KeyNotText
    else None

-- The rule of the lowest number that a token breaks by its first byte.
abbrev pub first_rule : Want → Kind → Option Reason
first_rule w (refused r) = Some r
first_rule w k = place_rule w (opens k) (is_str k)

-- The rule that a token breaks by its length.
abbrev pub length_rule : TokenHead → Option Reason
length_rule (token.Str n) = if nat_lt max_len n then Some TooLong else None
length_rule (token.Bin n) = if nat_lt max_len n then Some TooLong else None
length_rule (token.Array n) = if nat_lt max_len n then Some TooLong else None
length_rule (token.Map n) = if nat_lt max_len n then Some TooLong else None
length_rule h = None

-- The rule that a token breaks by those bytes.
abbrev pub content_rule : TokenHead → List ℕ → Option Reason
content_rule (token.Str n) body = if is_utf8 body then None else Some BadUtf8
content_rule h body = None

-- These, so many times.
abbrev pub times : ℕ → List Want → List Want
times zero ws = []
times (suc n) ws = ws ++ times n ws

-- The levels that are left inside an array or map.
abbrev pub inside : ℕ → ℕ
inside zero = zero
inside (suc d) = d

-- What may stand behind a token, where so many levels were left.
abbrev pub wants_of : ℕ → TokenHead → List Want
wants_of d (token.Array n) = times n (value (inside d) ∷ [])
wants_of d (token.Map n) = times n (key (inside d) ∷ value (inside d) ∷ [])
wants_of d h = []

-- What the front of the bytes is: a whole token that breaks no rule, of so many bytes and with what may stand
-- behind it, or too few bytes to tell, or a token that breaks a rule.
pub data Next : Type 0 where
  takes : ℕ → List Want → Next
  cut : Next
  breaks : Reason → Next

-- The broken rule, or what is said where none is broken.
abbrev pub or_next : Option Reason → Next → Next
or_next (Some r) next = breaks r
or_next None next = next

-- A rule on the content is applied once the content is whole.
abbrev pub next_by_content : Want → TokenHead → ℕ → List ℕ → Next
next_by_content w h n rest =
    if nat_lt (length rest) (body_size h) then cut
    else or_next (content_rule h (take (body_size h) rest)) (takes (n + body_size h) (wants_of (levels w) h))

-- A rule on the length is applied once the head is whole.
abbrev pub next_by_head : Want → HeadStep → List ℕ → Next
next_by_head w step.Short bytes = cut
next_by_head w (step.Refused r) bytes = breaks r
next_by_head w (step.Got h n) bytes = or_next (length_rule h) (next_by_content w h n (drop n bytes))

-- A rule on the first byte is applied once that byte is in.
abbrev pub next_of : Want → List ℕ → Next
next_of w [] = cut
next_of w (b ∷ rest) = or_next (first_rule w (kind_of b)) (next_by_head w (head_of (b ∷ rest)) (b ∷ rest))

-- So many tokens are whole and break no rule, and the next one, so many bytes from the front, breaks this one.
abbrev pub BreaksAfter : ℕ → List Want → List ℕ → ℕ → Reason → Type 0
BreaksAfter m [] bytes k r = ⊥
BreaksAfter zero (w ∷ ws) bytes k r = (next_of w bytes ≡ breaks r) × (k ≡ 0)
BreaksAfter (suc m) (w ∷ ws) bytes k r =
    (n j : ℕ) × (more : List Want) × (next_of w bytes ≡ takes n more) × (k ≡ n + j) × BreaksAfter m (more ++ ws) (drop n bytes) j r

-- The first token, left to right, that breaks a rule begins at this place of the bytes and breaks this one.
abbrev pub IsRefused : List ℕ → ℕ → Reason → Type 0
IsRefused bytes k r = (m : ℕ) × BreaksAfter m (value max_nesting ∷ []) bytes k r
