-- The rules that a frame's tokens keep, and the first token that breaks one. From the multiplexing stream's protocol.
use Rattle.std.specs.Prelude.{ℕ, ◌+◌, List, [], length, take, pos, negsuc, Bool, true, false, ◌&&◌, ◌==◌, nat_lt, not, if◌then◌else◌, Option, Some, None}
use Rattle.std.specs.Int.{w8, w16, w32}
use Rattle.std.specs.Str.{is_utf8}
use Rattle.wire_base.specs.declared.limits.TheConstants.{COUNT_LIMIT, MAX_PAYLOAD}
use Rattle.wire_base.specs.declared.token.TokenHead.{TokenHead}
use Rattle.wire_base.specs.declared.token.TokenHead.TheVariants as token
use Rattle.wire_base.specs.declared.reason.Reason.{Reason}
use Rattle.wire_base.specs.declared.reason.Reason.TheVariants.{BadCode, BadShape, BadId, BadSource, PayloadTooLong, BadOffer, BadAcceptance, BadProcessed, BadName}
use Rattle.wire_base.specs.declared.frame.Version.{Version}
use Rattle.wire_base.specs.declared.frame.Version.TheVariants as version
use Rattle.wire_base.specs.declared.frame.Code.{Code}
use Rattle.wire_base.specs.declared.frame.Code.TheVariants as code
use Rattle.wire_base.specs.ControlCode.{code_of}
use Rattle.wire_base.specs.Tokens.{is_number, is_str, is_bin, is_array}
use Rattle.wire_base.specs.Rules.{Due, Refusal, judged, closed, with_text, behind, body_size, due_then, inner_then, end_refusal, natural, has_count, has_count_from, has_length, says_text, field_then}
use Rattle.frame_text.specs.Codec.{elements}

-- ---- the tokens of a frame of version 2 or 3

-- an array of the least number of elements, or of one more
abbrev pub array_due : ℕ → Reason → Due
array_due least reason = record { begins = is_array; may_say = has_count_from least; other = reason; wrong = reason }

-- a control code: 0 to 5
abbrev pub code_due : Due
code_due = record { begins = is_number; may_say = natural (λ n. nat_lt n 6); other = BadCode; wrong = BadCode }

-- a channel id: 1 to 2^63 - 1
abbrev pub id_due : Due
id_due = record { begins = is_number; may_say = natural (λ n. nat_lt 0 n && nat_lt n COUNT_LIMIT); other = BadId; wrong = BadId }

-- 1 or -1
abbrev pub says_source : TokenHead → Bool
says_source (token.Whole (pos n)) = n == 1
says_source (token.Whole (negsuc k)) = k == 0
says_source h = false

-- a channel source
abbrev pub source_due : Due
source_due = record { begins = is_number; may_say = says_source; other = BadSource; wrong = BadSource }

-- a payload's bytes
abbrev pub payload_due : Due
payload_due = record { begins = is_bin; may_say = has_length (λ n. not (nat_lt MAX_PAYLOAD n)); other = BadShape; wrong = PayloadTooLong }

-- a name
abbrev pub name_due : Due
name_due = record { begins = is_str; may_say = says_text; other = BadOffer; wrong = BadOffer }

-- a window or a count: 0 to 2^63 - 1
abbrev pub count_due : Reason → Due
count_due reason = record { begins = is_number; may_say = natural (λ n. nat_lt n COUNT_LIMIT); other = reason; wrong = reason }

-- an array of one element
abbrev pub one_due : Reason → Due
one_due reason = record { begins = is_array; may_say = has_count 1; other = reason; wrong = reason }

-- ---- payloads

-- a count where there is one, and then the end
abbrev pub optional_refusal : Bool → Reason → List ℕ → Refusal
optional_refusal false reason bytes = end_refusal reason bytes
optional_refusal true reason bytes = inner_then (count_due reason) (λ count. end_refusal reason) bytes

-- a name and what stands behind it
abbrev pub name_then : (TokenHead → List ℕ → Refusal) → List ℕ → Refusal
name_then next bytes = behind (closed BadOffer (with_text BadName (judged name_due bytes) bytes)) next bytes

-- an offer: an array of a name, or of a name and a window
abbrev pub offer_refusal : List ℕ → Refusal
offer_refusal = inner_then (array_due 1 BadOffer) (λ array. name_then (λ name. optional_refusal (has_count 2 array) BadOffer))

-- an acceptance: an empty array, or one of a window
abbrev pub acceptance_refusal : List ℕ → Refusal
acceptance_refusal = inner_then (array_due 0 BadAcceptance) (λ array. optional_refusal (has_count 1 array) BadAcceptance)

-- an acknowledgement: an array of a count
abbrev pub acknowledgement_refusal : List ℕ → Refusal
acknowledgement_refusal = inner_then (one_due BadProcessed) (λ array. optional_refusal true BadProcessed)

-- what a frame of this code may carry
abbrev pub carried_refusal : Option Code → List ℕ → Refusal
carried_refusal (Some code.Offer) bytes = offer_refusal bytes
carried_refusal (Some code.OfferAccepted) bytes = acceptance_refusal bytes
carried_refusal (Some code.ContentProcessed) bytes = acknowledgement_refusal bytes
carried_refusal c bytes = None

-- rules inside a payload are applied once the payload is whole
abbrev pub body_refusal : Option Code → ℕ → List ℕ → Refusal
body_refusal c size bytes = if nat_lt (length bytes) size then None else carried_refusal c (take size bytes)

-- a payload, which is empty where its element is left out
abbrev pub payload_refusal : Bool → Option Code → List ℕ → Refusal
payload_refusal false c bytes = carried_refusal c []
payload_refusal true c bytes = due_then payload_due (λ bin. body_refusal c (body_size bin)) bytes

-- ---- frames

-- the code that a token says
abbrev pub code_said : TokenHead → Option Code
code_said (token.Whole (pos n)) = code_of n
code_said h = None

abbrev pub source_then : Version → (List ℕ → Refusal) → List ℕ → Refusal
source_then version.Three next bytes = due_then source_due (λ source. next) bytes
source_then v next bytes = next bytes

-- a frame of version 2 or 3: an array of a code, an id, in version 3 a source, and a payload that may be left out
abbrev pub packed_refusal : Version → List ℕ → Refusal
packed_refusal v = due_then (array_due (elements v) BadShape) (λ array. due_then code_due (λ number. due_then id_due (λ id. source_then v (payload_refusal (has_count (elements v + 1) array) (code_said number)))))

-- the payload of an offer of version 1 is a name
abbrev pub plain_carried_refusal : Option Code → List ℕ → Refusal
plain_carried_refusal (Some code.Offer) bytes = if is_utf8 bytes then None else Some (0, BadName)
plain_carried_refusal c bytes = None

abbrev pub plain_body_refusal : Option Code → ℕ → List ℕ → Refusal
plain_body_refusal c size bytes = if nat_lt (length bytes) size then None else plain_carried_refusal c (take size bytes)

-- a frame of version 1: a code, which is no acknowledgement, an id, a length and a payload
abbrev pub plain_refusal : List ℕ → Refusal
plain_refusal = field_then w8 (λ n. nat_lt n 5) BadCode (λ number. field_then w32 (λ n. nat_lt 0 n) BadId (λ id. field_then w16 (λ n. true) BadShape (λ size. plain_body_refusal (code_of number) size)))

-- the first token of a frame that breaks a rule
unfoldable pub first_refusal : Version → List ℕ → Refusal
first_refusal version.One bytes = plain_refusal bytes
first_refusal v bytes = packed_refusal v bytes
