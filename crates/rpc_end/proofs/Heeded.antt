-- What a message is to an end by what it holds, and by its items: what is said, and what is told.
use Rattle.std.specs.Prelude.{ℕ, List, [], ◌∷◌, Bool, true, false, ◌&&◌, codes, is_some, if◌then◌else◌, Option, Some, None}
use Rattle.std.proofs.Common.{◌≡◌, refl, sym, ◌∙◌, ap, ap₂, subst}
use Rattle.wire_base.specs.declared.reason.Reason.TheVariants.{DuplicateRequest}
use Rattle.wire_base.specs.declared.text.Id.{Id}
use Rattle.rpc_items.specs.declared.calls.RpcEvent.TheVariants as event
use Rattle.rpc_items.specs.declared.calls.Target.{Target}
use Rattle.rpc_items.specs.declared.messages.Message.{Message}
use Rattle.rpc_items.specs.declared.messages.Message.TheVariants.{Request, Notification}
use Rattle.rpc_items.specs.declared.messages.Message.TheVariants as message
use Rattle.rpc_items.specs.declared.messages.Params.{Params}
use Rattle.rpc_items.specs.declared.methods.Meaning.{Meaning}
use Rattle.rpc_items.specs.declared.methods.Meaning.TheVariants.{Serves, Cancels, Reports, Turns, Releases, Calls}
use Rattle.rpc_items.specs.Automatic.{automatic, fault, nothing_there}
use Rattle.rpc_items.specs.Bodies.{body_refusal}
use Rattle.rpc_items.specs.Events.{answered_event, event_of, handled_event, notification_event, object_target, reported_event, request_event}
use Rattle.rpc_items.specs.Fitting.{AreWritable, IsNamed}
use Rattle.rpc_items.specs.Items.{RpcItem, Got}
use Rattle.rpc_items.specs.Meanings.{meaning}
use Rattle.rpc_items.specs.OwnHandles.{own_live, own_made}
use Rattle.rpc_items.specs.Outcomes.{request_named}
use Rattle.rpc_items.specs.Refusals.{message_refusal}
use Rattle.rpc_items.specs.Reports.{has_progress}
use Rattle.rpc_items.specs.Saying.{said}
use Rattle.rpc_items.specs.Waiting.{asks}
use Rattle.rpc_items.specs.Writing.{message_value}
use Rattle.rpc_items.proofs.Writing.{automatic_fits}
use Rattle.message_body.proofs.Lengths.{fair}
use Rattle.message_body.specs.declared.encoding.Encoding.{Encoding}
use Rattle.message_body.specs.Written.{encoder}
use Rattle.call_table.specs.declared.answers.Settled.{Settled}
use Rattle.call_table.specs.Table.{reported_in, settled_in}
use Rattle.call_table.proofs.Reading.{if_progress, reports_as}
use Rattle.enumerables.specs.Producer.{page_in}
use Rattle.marshalled_handles.specs.Owner.{object_in}
use Rattle.marshalled_handles.specs.Stands.{own_object}
use Rattle.marshalled_handles.proofs.Reading.{no_object_asked, object_asked, objects_as}
use Rattle.marshalled_handles.proofs.Sides.{living}
use Rattle.sequence_limits.specs.Fitting.{PagesFit}
use Rattle.rpc_end.specs.Heeding.{answers_by, asks_in, broken_by, event_by, extension_event, notification_event_by, object_answers, object_event, report_event, request_event_by, said_by, settled_event}
use Rattle.rpc_end.specs.Stands.{RpcStands, RpcValue}
use Rattle.rpc_end.proofs.Sequences.{page_answer_fits, page_is}
use Rattle.rpc_end.proofs.Settling.{by_response}

-- an answer that a request gets by itself can be written

object_fits : (e : Encoding) (id : Id) (object : Option ℕ) → IsNamed id → AreWritable (encoder e) (object_answers id object)
object_fits e id (Some object) named = tt
object_fits e id None named = automatic_fits (encoder e) id (Calls 0 []) [] (fair e) tt named

all_fit : (e : Encoding) (id : Id) (m : Meaning) (end : RpcValue) → PagesFit (encoder e) end.producer → IsNamed id → AreWritable (encoder e) (answers_by id m end)
all_fit e id (Turns token) end fit named = (page_answer_fits e id token end.producer (page_in token end.producer) refl fit named, tt)
all_fit e id (Calls handle method) end fit named = object_fits e id (object_in handle end.owner) named
all_fit e id m end fit named = automatic_fits (encoder e) id m [] (fair e) tt named

pub answer_fits : (e : Encoding) (id : Id) (m : Meaning) (end : RpcValue) (answer : Message) → PagesFit (encoder e) end.producer → IsNamed id → answers_by id m end ≡ answer ∷ [] → body_refusal (encoder e) (message_value answer) ≡ None
answer_fits e id m end answer fit named is = (subst (λ (ms : List Message). AreWritable (encoder e) ms) is (all_fit e id m end fit named)).0

module _ (end : RpcValue) (items : List RpcItem) (at : ℕ) (rest : List ℕ) (s : RpcStands end items at rest) where
  -- objects that live

  object_is : (handle : ℕ) → object_in handle end.owner ≡ own_object handle items
  object_is handle = objects_as handle end.owner items s.owner

  object_lives : (handle : ℕ) (object : Option ℕ) → own_object handle items ≡ object → is_some object ≡ own_live handle items
  object_lives handle (Some object) e = sym (object_asked handle object items e).0
  object_lives handle None e = sym (no_object_asked handle items e)

  pub asks_is : (m : Meaning) → asks_in m end.owner ≡ asks m items
  asks_is (Calls handle method) = ap is_some (object_is handle) ∙ object_lives handle (own_object handle items) refl
  asks_is m = refl

  -- what is said

  object_said : (id : Id) (handle : ℕ) (object : Option ℕ) → own_object handle items ≡ object → (if own_live handle items then [] else fault id nothing_there (codes "no object") ∷ []) ≡ object_answers id object
  object_said id handle (Some object) e = ap (λ (b : Bool). if b then [] else fault id nothing_there (codes "no object") ∷ []) (object_asked handle object items e).0
  object_said id handle None e = ap (λ (b : Bool). if b then [] else fault id nothing_there (codes "no object") ∷ []) (no_object_asked handle items e)

  automatic_is : (id : Id) (m : Meaning) → automatic id m items ≡ answers_by id m end
  automatic_is id (Turns token) = page_is id token end.producer items s.producer
  automatic_is id (Calls handle method) = object_said id handle (own_object handle items) refl ∙ ap (object_answers id) (sym (object_is handle))
  automatic_is id m = refl

  pub said_is : (place : ℕ) (m : Message) → said (Got place m) items ≡ said_by m end
  said_is place (Request id method params) = automatic_is id (meaning method params)
  said_is place m = refl

  -- what is told

  told_if : (b : Bool) (n : ℕ) (method : List ℕ) → report_event (if b then Some n else None) method ≡ (if b then event.Reported n else event.Handled method)
  told_if true n method = refl
  told_if false n method = refl

  report_told : (o : Option ℕ) (method : List ℕ) → report_event (if_progress o items) method ≡ reported_event o method items
  report_told (Some n) method = told_if (has_progress n items) n method
  report_told None method = refl

  report_is : (token : Id) (method : List ℕ) → report_event (reported_in token end.table) method ≡ reported_event (request_named token items) method items
  report_is token method = ap (λ (o : Option ℕ). report_event o method) (reports_as end.table items token s.table) ∙ report_told (request_named token items) method

  extension_is : (m : Meaning) (method : List ℕ) → extension_event m method end ≡ handled_event m method items
  extension_is (Cancels id) method = ap (λ (b : Bool). if b then event.Cancelled id else event.Handled method) (s.table.waiting id)
  extension_is (Reports token value) method = report_is token method
  extension_is (Releases key) method = ap (λ (b : Bool). if key.own && b then event.Released key else event.Handled method) (living end.owner end.holder items s.owner s.holder key)
  extension_is m method = refl

  object_told : (id : Id) (handle : ℕ) (called method : List ℕ) (params : Params) (object : Option ℕ) → own_object handle items ≡ object
      → object_event id object handle called method params ≡ (if own_live handle items then event.Asked id (object_target (own_made handle items) handle) called params else event.Handled method)
  object_told id handle called method params (Some object) e =
      let asked = object_asked handle object items e in
      sym (ap₂ (λ (b : Bool) (t : Target). if b then event.Asked id t called params else event.Handled method) asked.0 asked.1)
  object_told id handle called method params None e =
      sym (ap (λ (b : Bool). if b then event.Asked id (object_target (own_made handle items) handle) called params else event.Handled method) (no_object_asked handle items e))

  request_is : (id : Id) (m : Meaning) (method : List ℕ) (params : Params) → request_event_by id m method params end ≡ request_event id m method params items
  request_is id Serves method params = refl
  request_is id (Calls handle called) method params =
      ap (λ (o : Option ℕ). object_event id o handle called method params) (object_is handle) ∙ object_told id handle called method params (own_object handle items) refl
  request_is id m method params = extension_is m method

  notification_is : (m : Meaning) (method : List ℕ) (params : Params) → notification_event_by m method params end ≡ notification_event m method params items
  notification_is Serves method params = refl
  notification_is m method params = extension_is m method

  settled_is : (id : Id) → settled_event (settled_in id end.table) ≡ answered_event (request_named id items)
  settled_is id =
      by_response end.table items s.table id (λ (x : Settled). settled_event x ≡ answered_event (request_named id items))
      (λ n asked named e. sym (ap answered_event named)) (λ stray. sym (ap answered_event stray))

  pub event_is : (m : Message) → event_by m end ≡ event_of m items
  event_is (Request id method params) = request_is id (meaning method params) method params
  event_is (Notification method params) = notification_is (meaning method params) method params
  event_is (message.Result id value) = settled_is id
  event_is (message.Error (Some id) code text more) = settled_is id
  event_is (message.Error None code text more) = refl

  -- what is refused
  pub broken_is : (m : Message) → broken_by m end.table ≡ message_refusal m items
  broken_is (Request id method params) = ap (λ (b : Bool). if b then Some DuplicateRequest else None) (s.table.waiting id)
  broken_is m = refl
