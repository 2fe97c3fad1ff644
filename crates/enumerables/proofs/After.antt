-- What stands after a call, by what the call made of the sequences.
use Rattle.std.proofs.Common.{◌≡◌, ℕ, ◌+◌, List, [], ◌∷◌, sym, subst, Some, None}
use Rattle.std.specs.Prelude.{true}
use Rattle.wire_base.specs.Tree.{Tree}
use Rattle.wire_base.specs.declared.state.Cause.{Cause}
use Rattle.wire_base.specs.declared.text.Id.{Id}
use Rattle.rpc_items.specs.declared.calls.Answer.TheVariants as answer
use Rattle.rpc_items.specs.declared.calls.Expect.{Expect}
use Rattle.rpc_items.specs.declared.calls.Outcome.{Outcome}
use Rattle.rpc_items.specs.declared.messages.Message.{Message}
use Rattle.rpc_items.specs.declared.messages.Message.TheVariants.{Request}
use Rattle.rpc_items.specs.declared.messages.Params.{Params}
use Rattle.rpc_items.specs.declared.methods.Meaning.TheVariants.{Turns}
use Rattle.rpc_items.specs.Drawn.{asked_at, drawn}
use Rattle.rpc_items.specs.Items.{RpcItem, Did, Got, End, Next, Abort, Respond, is_running}
use Rattle.rpc_items.specs.Meanings.{meaning}
use Rattle.rpc_items.specs.Outcomes.{is_unanswered, response_in}
use Rattle.rpc_items.specs.Refusals.{turn_refusal}
use Rattle.rpc_items.specs.Sequences.{expects_sequence, is_sequence}
use Rattle.enumerables.specs.declared.followed.Followed.{Followed}
use Rattle.enumerables.specs.declared.sequence.Sequence.{Sequence}
use Rattle.enumerables.specs.Consumer.{settled, turning, without}
use Rattle.enumerables.specs.Producer.{all_ended, given_up, turned, with_sequence}
use Rattle.enumerables.specs.Stands.{ConsumerStands, IsAbort, ProducerStands}
use Rattle.enumerables.proofs.Keeping.{aborted_follows, ended_follows, turned_follows}
use Rattle.enumerables.proofs.Settled.{settled_follows}
use Rattle.enumerables.proofs.Standing.{ended_stands, given_up_stands, produced_stands, turned_stands}

-- the sequences that were answered

pub produced_after : (id : Id) (values : List Tree) (page first : ℕ) (old new : List Sequence) (items : List RpcItem) → new ≡ with_sequence values page first old → is_running items ≡ true → ProducerStands old items → ProducerStands new (Did (Respond id (answer.Sequence values page first)) ∷ items)
produced_after id values page first old new items e runs s = subst (λ (ss : List Sequence). ProducerStands ss (Did (Respond id (answer.Sequence values page first)) ∷ items)) (sym e) (produced_stands id values page first old items runs s)

pub paged_after : (token id : Id) (place : ℕ) (method : List ℕ) (params : Params) (old new : List Sequence) (items : List RpcItem) → new ≡ turned token old → meaning method params ≡ Turns token → ProducerStands old items → ProducerStands new (Got place (Request id method params) ∷ items)
paged_after token id place method params old new items e means s = subst (λ (ss : List Sequence). ProducerStands ss (Got place (Request id method params) ∷ items)) (sym e) (turned_stands token id place method params old items means s)

pub given_up_after : (token : Id) (place : ℕ) (message : Message) (old new : List Sequence) (items : List RpcItem) → new ≡ given_up token old → IsAbort token message → ProducerStands old items → ProducerStands new (Got place message ∷ items)
given_up_after token place message old new items e is s = subst (λ (ss : List Sequence). ProducerStands ss (Got place message ∷ items)) (sym e) (given_up_stands token place message old items is s)

pub ended_after : (cause : Cause) (old new : List Sequence) (items : List RpcItem) → new ≡ all_ended old → ProducerStands old items → ProducerStands new (End cause ∷ items)
ended_after cause old new items e s = subst (λ (ss : List Sequence). ProducerStands ss (End cause ∷ items)) (sym e) (ended_stands cause old items s)

-- the sequences that are followed

pub turned_after : (n number : ℕ) (old new : List Followed) (items : List RpcItem) → new ≡ turning n number old → turn_refusal n items ≡ None → number ≡ drawn items + 1 → ConsumerStands old items → ConsumerStands new (Did (Next n) ∷ items)
turned_after n number old new items e accepted is s = subst (λ (fs : List Followed). ConsumerStands fs (Did (Next n) ∷ items)) (sym e) (turned_follows n number old items accepted is s)

pub aborted_after : (n : ℕ) (old new : List Followed) (items : List RpcItem) → new ≡ without n old → turn_refusal n items ≡ None → ConsumerStands old items → ConsumerStands new (Did (Abort n) ∷ items)
aborted_after n old new items e accepted s = subst (λ (fs : List Followed). ConsumerStands fs (Did (Abort n) ∷ items)) (sym e) (aborted_follows n old items accepted s)

pub settled_after : (number : ℕ) (expect : Expect) (o : Outcome) (place : ℕ) (said : Message) (old new : List Followed) (items : List RpcItem) → new ≡ settled number expect o old → is_unanswered number items ≡ true → is_sequence expect ≡ expects_sequence (asked_at number items) → response_in number said ≡ Some o
    → ConsumerStands old items → ConsumerStands new (Got place said ∷ items)
settled_after number expect o place said old new items e waits expects says s = subst (λ (fs : List Followed). ConsumerStands fs (Got place said ∷ items)) (sym e) (settled_follows number expect o place said old items waits expects says s)

pub over_after : (cause : Cause) (old new : List Followed) (items : List RpcItem) → new ≡ [] → ConsumerStands old items → ConsumerStands new (End cause ∷ items)
over_after cause old new items e s = subst (λ (fs : List Followed). ConsumerStands fs (End cause ∷ items)) (sym e) (ended_follows cause old items s)
