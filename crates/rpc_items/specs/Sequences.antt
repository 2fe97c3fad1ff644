-- Sequences at the end that asks for them.
use Rattle.std.specs.Prelude.{ℕ, ◌+◌, List, [], ◌∷◌, Bool, true, false, not, ◌||◌, ◌==◌, codes, if◌then◌else◌, Option, Some, None}
use Rattle.wire_base.specs.declared.text.Id.{Id}
use Rattle.rpc_items.specs.declared.calls.Expect.{Expect}
use Rattle.rpc_items.specs.declared.calls.Expect.TheVariants.{Plain, Sequence}
use Rattle.rpc_items.specs.declared.calls.Outcome.{Outcome}
use Rattle.rpc_items.specs.declared.calls.Outcome.TheVariants.{Replied}
use Rattle.rpc_items.specs.Ids.{id_if}
use Rattle.rpc_items.specs.Values.{member, is_true}
use Rattle.rpc_items.specs.Items.{Next, Abort, RpcItem, Did, is_running}
use Rattle.rpc_items.specs.Drawn.{Asked, drawn, asked_at}
use Rattle.rpc_items.specs.Outcomes.{answer_to, is_unanswered}

-- whether a result is kept as a sequence
abbrev pub is_sequence : Expect → Bool
is_sequence Sequence = true
is_sequence Plain = false

-- whether a request expects a sequence
abbrev pub expects_sequence : Option Asked → Bool
expects_sequence (Some asked) = is_sequence asked.expect
expects_sequence None = false

-- the token in the answer to a request
abbrev pub token_of : Option Outcome → Option Id
token_of (Some (Replied value)) = id_if (member (codes "token") value)
token_of outcome = None

-- the token of the sequence that is the result of request n, where one was expected
abbrev pub adopted_token : ℕ → List RpcItem → Option Id
adopted_token n items = if expects_sequence (asked_at n items) then token_of (answer_to n items) else None

-- the number of the newest request for a page of it
abbrev pub last_turn : ℕ → List RpcItem → Option ℕ
last_turn n [] = None
last_turn n (Did (Next m) ∷ items) = if m == n then Some (drawn items + 1) else last_turn n items
last_turn n (item ∷ items) = last_turn n items

-- whether an answer ends the sequence: a finished page, or an error in its place
abbrev pub is_last_page : Option Outcome → Bool
is_last_page (Some (Replied value)) = is_true (member (codes "finished") value)
is_last_page (Some outcome) = true
is_last_page None = false

-- whether the answer to a request for a page ends the sequence
abbrev pub turn_is_last : Option ℕ → List RpcItem → Bool
turn_is_last (Some m) items = is_last_page (answer_to m items)
turn_is_last None items = false

-- whether a request for a page is unanswered
abbrev pub turn_is_unanswered : Option ℕ → List RpcItem → Bool
turn_is_unanswered (Some m) items = is_unanswered m items
turn_is_unanswered None items = false

-- whether a page was asked for that isn't answered
abbrev pub is_turning : ℕ → List RpcItem → Bool
is_turning n items = turn_is_unanswered (last_turn n items) items

-- whether this end gave the sequence up
abbrev pub has_given_up : ℕ → List RpcItem → Bool
has_given_up n [] = false
has_given_up n (Did (Abort m) ∷ items) = if m == n then true else has_given_up n items
has_given_up n (item ∷ items) = has_given_up n items

-- a token, unless its sequence is over
abbrev pub unless_over : (over : Bool) → Option Id → Option Id
unless_over over token = if over then None else token

-- the token of the sequence of request n while it lives
abbrev pub sequence_of : ℕ → List RpcItem → Option Id
sequence_of n items = unless_over (has_given_up n items || turn_is_last (last_turn n items) items || not (is_running items)) (adopted_token n items)
