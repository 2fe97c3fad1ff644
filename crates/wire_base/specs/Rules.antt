-- The rules that a message's tokens keep, and the first token that breaks one.
use Rattle.std.specs.Prelude.{ℕ, ◌+◌, List, [], ◌∷◌, length, take, drop, pos, Bool, true, false, ◌||◌, ◌==◌, nat_lt, if◌then◌else◌, Option, Some, None}
use Rattle.std.specs.Int.{Width, byte_len, from_be_bytes}
use Rattle.std.specs.Str.{is_utf8}
use Rattle.wire_base.specs.Head.{Kind, refused, kind_of, head_of}
use Rattle.wire_base.specs.declared.token.TokenHead.{TokenHead}
use Rattle.wire_base.specs.declared.token.TokenHead.TheVariants as token
use Rattle.wire_base.specs.declared.token.HeadStep.{HeadStep}
use Rattle.wire_base.specs.declared.token.HeadStep.TheVariants as step
use Rattle.wire_base.specs.declared.reason.Reason.{Reason}

-- a token that is due: which first bytes begin one, what its head may say, and why a token of another sort and one that says something else are refused
pub record Due : Type 0 where
  pub begins : Kind → Bool
  pub may_say : TokenHead → Bool
  pub other : Reason
  pub wrong : Reason

-- what stands at the front where something is due: it whole and allowed, of so many bytes, too few bytes to tell, or what breaks a rule
pub data Judged (A : Type 0) : Type 0 where
  passes : A → (size : ℕ) → Judged A
  cut : Judged A
  breaks : Reason → Judged A

-- a rule on what a head says is applied once the head is whole
abbrev pub judged_head : Due → HeadStep → Judged TokenHead
judged_head due step.Short = cut
judged_head due (step.Refused r) = breaks r
judged_head due (step.Got h n) = if due.may_say h then passes h n else breaks due.wrong

-- a rule on the first byte is applied once that byte is in: first those that hold wherever a token stands, then that on the sort
abbrev pub by_first : Due → Kind → Judged TokenHead → Judged TokenHead
by_first due (refused r) head = breaks r
by_first due k head = if due.begins k then head else breaks due.other

unfoldable pub judged : Due → List ℕ → Judged TokenHead
judged due [] = cut
judged due (b ∷ rest) = by_first due (kind_of b) (judged_head due (head_of (b ∷ rest)))

-- inside a payload no more bytes come: a token that isn't whole breaks this rule
abbrev pub closed : {A : Type 0} → Reason → Judged A → Judged A
closed reason (passes x n) = passes x n
closed reason cut = breaks reason
closed reason (breaks r) = breaks r

-- how many bytes stand behind a head that belong to its token
abbrev pub body_size : TokenHead → ℕ
body_size (token.Str n) = n
body_size (token.Bin n) = n
body_size h = 0

abbrev pub text_judged : Reason → TokenHead → ℕ → List ℕ → Judged TokenHead
text_judged reason h n rest =
    if nat_lt (length rest) (body_size h) then cut
    else if is_utf8 (take (body_size h) rest) then passes h (n + body_size h)
    else breaks reason

-- a str with its bytes, which are UTF-8
abbrev pub with_text : Reason → Judged TokenHead → List ℕ → Judged TokenHead
with_text reason (passes h n) bytes = text_judged reason h n (drop n bytes)
with_text reason cut bytes = cut
with_text reason (breaks r) bytes = breaks r

-- the offset of the first token that breaks a rule, and its reason, where one does
abbrev pub Refusal : Type 0
Refusal = Option (ℕ × Reason)

-- the same, from so many bytes further in front
abbrev pub further : ℕ → Refusal → Refusal
further n None = None
further n (Some p) = Some (n + p.0, p.1)

-- what is due, and what stands behind it
abbrev pub behind : {A : Type 0} → Judged A → (A → List ℕ → Refusal) → List ℕ → Refusal
behind (passes x n) next bytes = further n (next x (drop n bytes))
behind cut next bytes = None
behind (breaks r) next bytes = Some (0, r)

-- a token that is due, and the tokens behind it
abbrev pub due_then : Due → (TokenHead → List ℕ → Refusal) → List ℕ → Refusal
due_then due next bytes = behind (judged due bytes) next bytes

-- the same inside a payload
abbrev pub inner_then : Due → (TokenHead → List ℕ → Refusal) → List ℕ → Refusal
inner_then due next bytes = behind (closed due.other (judged due bytes)) next bytes

-- why a token where none may stand is refused
abbrev pub unwanted : Reason → Kind → Reason
unwanted reason (refused r) = r
unwanted reason k = reason

-- nothing more may stand in a payload
abbrev pub end_refusal : Reason → List ℕ → Refusal
end_refusal reason [] = None
end_refusal reason (b ∷ rest) = Some (0, unwanted reason (kind_of b))

-- ---- what a head may say

-- a whole number that isn't negative and passes a test
abbrev pub natural : (ℕ → Bool) → TokenHead → Bool
natural test (token.Whole (pos n)) = test n
natural test h = false

-- an array of so many elements
abbrev pub has_count : ℕ → TokenHead → Bool
has_count n (token.Array k) = k == n
has_count n h = false

-- an array of the least number of elements, or of one more
abbrev pub has_count_from : ℕ → TokenHead → Bool
has_count_from least h = has_count least h || has_count (least + 1) h

-- a bin whose length passes a test
abbrev pub has_length : (ℕ → Bool) → TokenHead → Bool
has_length test (token.Bin n) = test n
has_length test h = false

-- a str
abbrev pub says_text : TokenHead → Bool
says_text (token.Str n) = true
says_text h = false

-- ---- fields of a fixed width

-- a big-endian number that passes a test
abbrev pub field_judged : Width → (ℕ → Bool) → Reason → List ℕ → Judged ℕ
field_judged w test reason bytes =
    if nat_lt (length bytes) (byte_len w) then cut
    else if test (from_be_bytes w (take (byte_len w) bytes)) then passes (from_be_bytes w (take (byte_len w) bytes)) (byte_len w)
    else breaks reason

-- a field that is due, and what stands behind it
abbrev pub field_then : Width → (ℕ → Bool) → Reason → (ℕ → List ℕ → Refusal) → List ℕ → Refusal
field_then w test reason next bytes = behind (field_judged w test reason bytes) next bytes
