-- When what is kept of sequences stands for a list of items.
use Rattle.std.specs.Prelude.{◌≡◌, ℕ, ◌+◌, ◌*◌, List, [], ◌∷◌, length, drop, Bool, false, slice_get, option_map, if◌then◌else◌, Option, Some, None}
use Rattle.wire_base.specs.Tree.{Tree}
use Rattle.wire_base.specs.declared.text.Id.{Id}
use Rattle.rpc_items.specs.declared.messages.Message.{Message}
use Rattle.rpc_items.specs.declared.messages.Message.TheVariants.{Request, Notification}
use Rattle.rpc_items.specs.declared.methods.Meaning.TheVariants.{Aborts}
use Rattle.rpc_items.specs.Fitting.{page_to_come}
use Rattle.rpc_items.specs.Items.{RpcItem}
use Rattle.rpc_items.specs.Meanings.{meaning}
use Rattle.rpc_items.specs.Outcomes.{answer_to}
use Rattle.rpc_items.specs.Produced.{Produced, last_token, produced, produced_at}
use Rattle.rpc_items.specs.Producing.{is_producing, page_count, sequence_named}
use Rattle.rpc_items.specs.Sequences.{has_given_up, is_turning, last_turn, sequence_of}
use Rattle.enumerables.specs.declared.followed.Followed.{Followed}
use Rattle.enumerables.specs.declared.sequence.Sequence.{Sequence}
use Rattle.enumerables.specs.Consumer.{found}

-- the values that are left of a sequence after so many pages, while its token lives
abbrev pub left_of : (lives : Bool) → (pages : ℕ) → Produced → List Tree
left_of lives pages s = if lives then drop (s.first + pages * s.page) s.values else []

-- what is kept of the sequence with a token
abbrev pub sequence_after : (token : ℕ) → List RpcItem → Produced → Sequence
sequence_after token items s = record { page = s.page; left = left_of (is_producing token items) (page_count token items) s }

-- the sequence at a place, where that of token 1 stands at 0
abbrev pub sequence_at : (place : ℕ) → List RpcItem → Option Sequence
sequence_at place items = option_map (sequence_after (place + 1) items) (slice_get (produced items) place)

-- the sequences are as these items leave them
pub record ProducerStands (sequences : List Sequence) (items : List RpcItem) : Type 0 where
  pub count : length sequences ≡ last_token items
  pub each : (place : ℕ) → slice_get sequences place ≡ sequence_at place items

-- the next page of the token that there may be
abbrev pub next_page_of : Option ℕ → List RpcItem → Option Tree
next_page_of (Some token) items = Some (page_to_come (produced_at token items) (page_count token items))
next_page_of None items = None

-- the next page of the live token that an id is
abbrev pub next_page : Id → List RpcItem → Option Tree
next_page id items = next_page_of (sequence_named id items) items

-- a message that gives this token up
abbrev pub IsAbort : Id → Message → Type 0
IsAbort token (Request id method params) = meaning method params ≡ Aborts token
IsAbort token (Notification method params) = meaning method params ≡ Aborts token
IsAbort token message = ⊥

-- the request for a page of request n's sequence that is unanswered
abbrev pub turn_of : ℕ → List RpcItem → Option ℕ
turn_of n items = if is_turning n items then last_turn n items else None

-- what is kept of request n, by the token of its sequence
abbrev pub followed_after : ℕ → List RpcItem → Id → Followed
followed_after n items token = record { request = n; token = token; turn = turn_of n items }

-- each request has one sequence at most
abbrev pub AreOnce : List Followed → Type 0
AreOnce [] = Unit {0}
AreOnce (f ∷ followed) = (found f.request followed ≡ None) × AreOnce followed

-- no page of request n's sequence was asked for, and it wasn't given up
pub record IsUntouched (n : ℕ) (items : List RpcItem) : Type 0 where
  pub turned : last_turn n items ≡ None
  pub kept : has_given_up n items ≡ false

-- the sequences of own requests are as these items leave them
pub record ConsumerStands (followed : List Followed) (items : List RpcItem) : Type 0 where
  pub each : (n : ℕ) → found n followed ≡ option_map (followed_after n items) (sequence_of n items)
  pub once : AreOnce followed
  pub early : (n : ℕ) → answer_to n items ≡ None → IsUntouched n items
