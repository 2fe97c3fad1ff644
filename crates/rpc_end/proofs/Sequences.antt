-- What messages are to the sequences of an end, by what it holds, and by its items.
use Rattle.std.specs.Prelude.{ℕ, List, [], ◌∷◌, Bool, true, false, Option, Some, None}
use Rattle.std.proofs.Common.{◌≡◌, refl, sym, ◌∙◌, ap}
use Rattle.wire_base.specs.Tree.{Tree}
use Rattle.wire_base.specs.declared.text.Id.{Id}
use Rattle.wire_base.specs.declared.text.Id.TheVariants.{Name}
use Rattle.rpc_items.specs.declared.calls.Outcome.{Outcome}
use Rattle.rpc_items.specs.declared.calls.Outcome.TheVariants.{Replied, Failed}
use Rattle.rpc_items.specs.declared.messages.Message.{Message}
use Rattle.rpc_items.specs.declared.messages.Message.TheVariants.{Request, Notification}
use Rattle.rpc_items.specs.declared.messages.Message.TheVariants as message
use Rattle.rpc_items.specs.declared.messages.Params.{Params}
use Rattle.rpc_items.specs.declared.methods.Meaning.{Meaning}
use Rattle.rpc_items.specs.declared.methods.Meaning.TheVariants.{Turns, Aborts}
use Rattle.rpc_items.specs.Automatic.{page_by, turned}
use Rattle.rpc_items.specs.Bodies.{body_refusal}
use Rattle.rpc_items.specs.Drawn.{Asked, asked_at}
use Rattle.rpc_items.specs.Fitting.{IsNamed, page_to_come}
use Rattle.rpc_items.specs.Items.{RpcItem, Got, is_running}
use Rattle.rpc_items.specs.Meanings.{meaning}
use Rattle.rpc_items.specs.Outcomes.{request_named}
use Rattle.rpc_items.specs.Produced.{Produced, produced_at}
use Rattle.rpc_items.specs.Producing.{is_abort, is_aborted, is_open, is_turn, page_count, sequence_named}
use Rattle.rpc_items.specs.Sequences.{expects_sequence}
use Rattle.rpc_items.specs.Writing.{message_value}
use Rattle.rpc_items.proofs.Settling.{IsResponse, named_parts}
use Rattle.rpc_items.proofs.Writing.{automatic_fits, page_ok}
use Rattle.message_body.proofs.Lengths.{fair}
use Rattle.message_body.specs.declared.encoding.Encoding.{Encoding}
use Rattle.message_body.specs.Written.{encoder}
use Rattle.call_table.specs.declared.answers.Settled.{Settled}
use Rattle.call_table.specs.Stands.{TableStands}
use Rattle.call_table.specs.Table.{TableValue, settled_in}
use Rattle.enumerables.specs.declared.followed.Followed.{Followed}
use Rattle.enumerables.specs.declared.sequence.Sequence.{Sequence}
use Rattle.enumerables.specs.Consumer.{settled}
use Rattle.enumerables.specs.Producer.{given_up, page_in, turned as turned_sequences}
use Rattle.enumerables.specs.Stands.{ConsumerStands, ProducerStands, next_page_of}
use Rattle.enumerables.proofs.After.{given_up_after, paged_after, settled_after}
use Rattle.enumerables.proofs.Passing.{message_leaves_consumer, message_leaves_producer, stray_leaves_consumer}
use Rattle.enumerables.proofs.Tokens.{named_parts as token_parts, pages_as}
use Rattle.sequence_limits.specs.Fitting.{PagesFit}
use Rattle.sequence_limits.proofs.Kept.{page_fits}
use Rattle.rpc_end.specs.Heeding.{consumer_by, followed_by, left_by, page_answer, producer_by, turned_by}
use Rattle.rpc_end.proofs.Settling.{answers_it, by_response}

-- the answer to a request for a page

page_said : (id : Id) (p : Option Produced) (pages : ℕ) (r a : Bool) → is_open p pages r a ≡ true → page_by id p pages ≡ page_answer id (Some (page_to_come p pages)) ∷ []
page_said id (Some s) pages r a e = refl
page_said id None pages r a e = absurd (cc e)

turned_said : (id token : Id) (items : List RpcItem) (o : Option ℕ) → sequence_named token items ≡ o → turned id o items ≡ page_answer id (next_page_of o items) ∷ []
turned_said id token items (Some n) e = page_said id (produced_at n items) (page_count n items) (is_running items) (is_aborted n items) (token_parts token items n e).0
turned_said id token items None e = refl

pub page_is : (id token : Id) (sequences : List Sequence) (items : List RpcItem) → ProducerStands sequences items → turned id (sequence_named token items) items ≡ page_answer id (page_in token sequences) ∷ []
page_is id token sequences items s =
    turned_said id token items (sequence_named token items) refl ∙ ap (λ (page : Option Tree). page_answer id page ∷ []) (sym (pages_as sequences items token s))

-- that answer can be written

pub page_answer_fits : (e : Encoding) (id token : Id) (sequences : List Sequence) (page : Option Tree) → page_in token sequences ≡ page → PagesFit (encoder e) sequences → IsNamed id → body_refusal (encoder e) (message_value (page_answer id page)) ≡ None
page_answer_fits e id token sequences (Some page) is fit named = page_ok (encoder e) id page (fair e) named (page_fits (encoder e) token page sequences fit is)
page_answer_fits e id token sequences None is fit named = (automatic_fits (encoder e) id (Turns (Name [])) [] (fair e) tt named).0

-- the sequences that were answered, after a message

module _ (sequences : List Sequence) (items : List RpcItem) (s : ProducerStands sequences items) where
  request_produces : (place : ℕ) (id : Id) (m : Meaning) (method : List ℕ) (params : Params) → meaning method params ≡ m → ProducerStands (left_by m (turned_by m sequences)) (Got place (Request id method params) ∷ items)
  request_produces place id (Turns token) method params is = paged_after token id place method params sequences (turned_sequences token sequences) items refl is s
  request_produces place id (Aborts token) method params is = given_up_after token place (Request id method params) sequences (given_up token sequences) items refl is s
  request_produces place id m method params is = message_leaves_producer sequences place (Request id method params) items (λ token. ap (is_turn token) is) (λ token. ap (is_abort token) is) s

  notification_produces : (place : ℕ) (m : Meaning) (method : List ℕ) (params : Params) → meaning method params ≡ m → ProducerStands (left_by m sequences) (Got place (Notification method params) ∷ items)
  notification_produces place (Aborts token) method params is = given_up_after token place (Notification method params) sequences (given_up token sequences) items refl is s
  notification_produces place m method params is = message_leaves_producer sequences place (Notification method params) items (λ token. refl) (λ token. ap (is_abort token) is) s

  pub producer_stands : (place : ℕ) (m : Message) → ProducerStands (producer_by m sequences) (Got place m ∷ items)
  producer_stands place (Request id method params) = request_produces place id (meaning method params) method params refl
  producer_stands place (Notification method params) = notification_produces place (meaning method params) method params refl
  producer_stands place (message.Result id value) = message_leaves_producer sequences place (message.Result id value) items (λ token. refl) (λ token. refl) s
  producer_stands place (message.Error id code text more) = message_leaves_producer sequences place (message.Error id code text more) items (λ token. refl) (λ token. refl) s

-- the sequences that are followed, after a message

module _ (table : TableValue) (followed : List Followed) (items : List RpcItem) (s : TableStands false table items) (c : ConsumerStands followed items) where
  first_follows : (place : ℕ) (id : Id) (o : Outcome) (m : Message) (n : ℕ) (asked : Asked) → IsResponse id o m → request_named id items ≡ Some n → asked_at n items ≡ Some asked
      → ConsumerStands (settled n asked.expect o followed) (Got place m ∷ items)
  first_follows place id o m n asked is named e =
      let parts = named_parts id items n named in
      settled_after n asked.expect o place m followed (settled n asked.expect o followed) items refl parts.0 (ap expects_sequence (sym e)) (is n ∙ answers_it id n o parts.1) c

  response_follows : (place : ℕ) (id : Id) (o : Outcome) (m : Message) → IsResponse id o m → ConsumerStands (followed_by (settled_in id table) o followed) (Got place m ∷ items)
  response_follows place id o m is =
      by_response table items s id (λ (x : Settled). ConsumerStands (followed_by x o followed) (Got place m ∷ items))
      (λ n asked named e. first_follows place id o m n asked is named e)
      (λ stray. stray_leaves_consumer followed place id o m items is stray c)

  pub consumer_stands : (place : ℕ) (m : Message) → ConsumerStands (consumer_by m table followed) (Got place m ∷ items)
  consumer_stands place (Request id method params) = message_leaves_consumer followed place (Request id method params) items (λ n u. refl) c
  consumer_stands place (Notification method params) = message_leaves_consumer followed place (Notification method params) items (λ n u. refl) c
  consumer_stands place (message.Result id value) = response_follows place id (Replied value) (message.Result id value) (λ n. refl)
  consumer_stands place (message.Error (Some id) code text more) = response_follows place id (Failed code text more) (message.Error (Some id) code text more) (λ n. refl)
  consumer_stands place (message.Error None code text more) = message_leaves_consumer followed place (message.Error None code text more) items (λ n u. refl) c
