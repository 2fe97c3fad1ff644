-- What is kept of the sequences that are results of own requests, and what calls make of it.
use Rattle.std.specs.Prelude.{ℕ, List, [], ◌∷◌, ◌++◌, map, filter, Bool, false, not, ◌==◌, if◌then◌else◌, Option, Some, None}
use Rattle.wire_base.specs.declared.refusal.Refusal.{Refusal}
use Rattle.wire_base.specs.declared.refusal.Refusal.TheVariants as refusal
use Rattle.wire_base.specs.declared.text.Id.{Id}
use Rattle.rpc_items.specs.declared.calls.Expect.{Expect}
use Rattle.rpc_items.specs.declared.calls.Outcome.{Outcome}
use Rattle.rpc_items.specs.Sequences.{is_last_page, is_sequence, token_of}
use Rattle.enumerables.specs.declared.followed.Followed.{Followed}

-- the sequence of request n
abbrev pub found : ℕ → List Followed → Option Followed
found n [] = None
found n (f ∷ followed) = if f.request == n then Some f else found n followed

-- the token of a sequence that there may be
abbrev pub token_at : Option Followed → Option Id
token_at (Some f) = Some f.token
token_at None = None

-- why no page of a sequence that there may be can be asked for, where one was asked for or not
abbrev pub turning_refusal : (turn : Option ℕ) → Option Refusal
turning_refusal (Some m) = Some refusal.NextOutstanding
turning_refusal None = None

-- why no page of a sequence that there may be can be asked for, nor the sequence given up
abbrev pub following_refusal : Option Followed → Option Refusal
following_refusal (Some f) = turning_refusal f.turn
following_refusal None = Some refusal.NoEnumerable

-- whether a page was asked for by the request with this number
abbrev pub is_turn_of : ℕ → Option ℕ → Bool
is_turn_of number (Some m) = m == number
is_turn_of number None = false

-- a page of a sequence is asked for by the request with this number, where it is request n's sequence
abbrev pub asking : (n number : ℕ) → Followed → Followed
asking n number f = if f.request == n then record f { turn = Some number } else f

-- a page of request n's sequence is asked for, by the request with this number
abbrev pub turning : (n number : ℕ) → List Followed → List Followed
turning n number followed = map (asking n number) followed

-- request n's sequence is followed no longer
abbrev pub without : ℕ → List Followed → List Followed
without n followed = filter (λ f. not (f.request == n)) followed

-- no page of a sequence is asked for any longer, where it was by the request with this number
abbrev pub rested : (number : ℕ) → Followed → Followed
rested number f = if is_turn_of number f.turn then record f { turn = None } else f

-- the page that was asked for by the request with this number is answered, and not the last
abbrev pub cleared : (number : ℕ) → List Followed → List Followed
cleared number followed = map (rested number) followed

-- the page that was asked for by the request with this number is answered
abbrev pub paged : (number : ℕ) → (last : Bool) → List Followed → List Followed
paged number last followed = if last then filter (λ f. not (is_turn_of number f.turn)) followed else cleared number followed

-- the sequence with this token is followed, where there is one
abbrev pub follows : (number : ℕ) → Option Id → List Followed
follows number (Some token) = (record { request = number; token = token; turn = None }) ∷ []
follows number None = []

-- the sequence that the outcome of a request tells is followed
abbrev pub adopted : (number : ℕ) → Outcome → List Followed → List Followed
adopted number outcome followed = followed ++ follows number (token_of (Some outcome))

-- an unanswered request has this outcome
abbrev pub settled : (number : ℕ) → Expect → Outcome → List Followed → List Followed
settled number expect outcome followed = paged number (is_last_page (Some outcome)) (if is_sequence expect then adopted number outcome followed else followed)
