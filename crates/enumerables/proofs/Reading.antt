-- What is kept of sequences tells what the items tell.
use Rattle.std.specs.Prelude.{Bool, true, false, not, ◌==◌, ◌&&◌, length, nat_lt, nat_le, option_map, if◌then◌else◌}
use Rattle.std.proofs.Common.{◌≡◌, ℕ, List, refl, ◌∙◌, ap, Option, Some, None}
use Rattle.wire_base.specs.Tree.{Tree}
use Rattle.wire_base.specs.declared.refusal.Refusal.{Refusal}
use Rattle.wire_base.specs.declared.refusal.Refusal.TheVariants as refusal
use Rattle.wire_base.specs.declared.text.Id.{Id}
use Rattle.rpc_items.specs.declared.calls.Answer.TheVariants as answer
use Rattle.rpc_items.specs.Arguments.{most_drawn}
use Rattle.rpc_items.specs.Items.{RpcItem}
use Rattle.rpc_items.specs.Refusals.{answer_refusal, has_sequence, turn_refusal}
use Rattle.rpc_items.specs.Sequences.{is_turning, last_turn, sequence_of, turn_is_unanswered}
use Rattle.enumerables.specs.declared.followed.Followed.{Followed}
use Rattle.enumerables.specs.declared.sequence.Sequence.{Sequence}
use Rattle.enumerables.specs.Consumer.{following_refusal, found, token_at, turning_refusal}
use Rattle.enumerables.specs.Producer.{produce_refusal}
use Rattle.enumerables.specs.Stands.{ConsumerStands, ProducerStands}
use Rattle.enumerables.proofs.Following.{followed_as}

-- why an answer is refused
pub produces_as : (values : List Tree) (page first : ℕ) (sequences : List Sequence) (items : List RpcItem) → ProducerStands sequences items → produce_refusal (length values) page first sequences ≡ answer_refusal (answer.Sequence values page first) items
produces_as values page first sequences items s =
    ap (λ (n : ℕ). if page == 0 then Some refusal.BadPage else if nat_lt first (length values) && nat_le most_drawn n then Some refusal.TooManySequences else None) s.count

-- why no page can be asked for
turning_by : (turn : Option ℕ) (items : List RpcItem) → turning_refusal (if turn_is_unanswered turn items then turn else None) ≡ (if turn_is_unanswered turn items then Some refusal.NextOutstanding else None)
turning_by (Some m) items = by (turn_is_unanswered (Some m) items)
  where
    by : (b : Bool) → turning_refusal (if b then Some m else None) ≡ (if b then Some refusal.NextOutstanding else None)
    by true = refl
    by false = refl
turning_by None items = refl

following_by : (n : ℕ) (turn : Option ℕ) (token : Option Id) (refused : Option Refusal) → turning_refusal turn ≡ refused → following_refusal (option_map (followed_as n turn) token) ≡ (if not (has_sequence token) then Some refusal.NoEnumerable else refused)
following_by n turn (Some token) refused e = e
following_by n turn None refused e = refl

pub follows_as : (n : ℕ) (followed : List Followed) (items : List RpcItem) → ConsumerStands followed items → following_refusal (found n followed) ≡ turn_refusal n items
follows_as n followed items s = ap following_refusal (s.each n) ∙ following_by n (if is_turning n items then last_turn n items else None) (sequence_of n items) (if is_turning n items then Some refusal.NextOutstanding else None) (turning_by (last_turn n items) items)

-- its token
token_by : (n : ℕ) (turn : Option ℕ) (token : Option Id) → token_at (option_map (followed_as n turn) token) ≡ token
token_by n turn (Some token) = refl
token_by n turn None = refl

pub tokens_as : (n : ℕ) (followed : List Followed) (items : List RpcItem) → ConsumerStands followed items → token_at (found n followed) ≡ sequence_of n items
tokens_as n followed items s = ap token_at (s.each n) ∙ token_by n (if is_turning n items then last_turn n items else None) (sequence_of n items)
