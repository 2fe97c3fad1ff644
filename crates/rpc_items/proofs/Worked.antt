-- Worked values: requests and their responses at both ends, and what is refused.
use Rattle.std.specs.Prelude.{ℕ, List, [], ◌∷◌, true, false, codes, Some, None, pos, negsuc}
use Rattle.std.proofs.Common.{◌≡◌, refl}
use Rattle.wire_base.specs.Tree as tree
use Rattle.wire_base.specs.declared.reason.Reason.TheVariants as reason
use Rattle.wire_base.specs.declared.state.Cause.TheVariants.{InputEnded, PeerCompleted}
use Rattle.wire_base.specs.declared.text.Id.{Id}
use Rattle.wire_base.specs.declared.text.Id.TheVariants.{Number, Name}
use Rattle.rpc_items.specs.declared.calls.Answer.TheVariants as answer
use Rattle.rpc_items.specs.declared.calls.Arg.TheVariants as arg
use Rattle.rpc_items.specs.declared.calls.Arguments.TheVariants as arguments
use Rattle.rpc_items.specs.declared.calls.Expect.TheVariants.{Plain}
use Rattle.rpc_items.specs.declared.calls.Outcome.TheVariants.{Replied, Failed, Lost, Starved}
use Rattle.rpc_items.specs.declared.calls.RpcEvent.TheVariants as event
use Rattle.rpc_items.specs.declared.calls.Target.TheVariants as target
use Rattle.rpc_items.specs.declared.messages.Message.{Message}
use Rattle.rpc_items.specs.declared.messages.Message.TheVariants.{Request, Notification}
use Rattle.rpc_items.specs.declared.messages.Message.TheVariants as message
use Rattle.rpc_items.specs.declared.messages.Params.TheVariants as params
use Rattle.rpc_items.specs.Ids.{count_value}
use Rattle.rpc_items.specs.Items.{RpcItem, Did, Got, End, Ask, Respond, Forget, ended}
use Rattle.rpc_items.specs.Drawn.{drawn}
use Rattle.rpc_items.specs.Outcomes.{Known, NotYet, NoRequest, outcome}
use Rattle.rpc_items.specs.Waiting.{is_waiting}
use Rattle.rpc_items.specs.Saying.{said}
use Rattle.rpc_items.specs.Events.{event_of}
use Rattle.rpc_items.specs.Bodies.{Encoder}
use Rattle.rpc_items.specs.Refusals.{message_refusal}
use Rattle.rpc_items.specs.Allowed.{AreAllowed}

abbrev add : List ℕ
add = codes "add"

abbrev first : Id
first = Number (pos 1)

-- the end that asks

abbrev asking : RpcItem
asking = Did (Ask add (arguments.List (arg.Plain (count_value 2) ∷ arg.Plain (count_value 3) ∷ [])) Plain)

abbrev asked_for : Message
asked_for = Request first add (params.List (count_value 2 ∷ count_value 3 ∷ []))

abbrev five : Message
five = message.Result first (count_value 5)

abbrev replied : RpcItem
replied = Got 9 five

abbrev ending : RpcItem
ending = End PeerCompleted

says_request : said asking [] ≡ asked_for ∷ []
says_request = refl

says_second : said asking (asking ∷ []) ≡ Request (Number (pos 2)) add (params.List (count_value 2 ∷ count_value 3 ∷ [])) ∷ []
says_second = refl

waits : outcome false 1 (asking ∷ []) ≡ NotYet
waits = refl

none_drawn : outcome false 2 (asking ∷ []) ≡ NoRequest
none_drawn = refl

none_is_zero : outcome false 0 (asking ∷ []) ≡ NoRequest
none_is_zero = refl

answered : event_of five (asking ∷ []) ≡ event.Answered 1
answered = refl

knows : outcome false 1 (replied ∷ asking ∷ []) ≡ Known (Replied (count_value 5))
knows = refl

fails : outcome false 1 (Got 9 (message.Error (Some first) (negsuc 32600) add (Some tree.nil)) ∷ asking ∷ []) ≡ Known (Failed (negsuc 32600) add (Some tree.nil))
fails = refl

second_waits : outcome false 2 (replied ∷ asking ∷ asking ∷ []) ≡ NotYet
second_waits = refl

-- a second response, one with a text for a number, one without an id, and one that came before its request

stray : event_of five (replied ∷ asking ∷ []) ≡ event.Stray
stray = refl

first_counts : outcome false 1 (Got 30 (message.Result first tree.nil) ∷ replied ∷ asking ∷ []) ≡ Known (Replied (count_value 5))
first_counts = refl

text_is_stray : event_of (message.Result (Name (codes "1")) tree.nil) (asking ∷ []) ≡ event.Stray
text_is_stray = refl

error_is_stray : event_of (message.Error None (pos 7) add None) (asking ∷ []) ≡ event.Stray
error_is_stray = refl

too_early : outcome false 1 (asking ∷ replied ∷ []) ≡ NotYet
too_early = refl

-- a connection that ends, one that stops, and a request that is forgotten

lost : outcome false 1 (ending ∷ asking ∷ []) ≡ Known Lost
lost = refl

not_lost : outcome false 1 (ending ∷ replied ∷ asking ∷ []) ≡ Known (Replied (count_value 5))
not_lost = refl

stays_lost : outcome false 1 (replied ∷ ending ∷ asking ∷ []) ≡ Known Lost
stays_lost = refl

starves : outcome true 1 (asking ∷ []) ≡ Known Starved
starves = refl

lost_before_starved : outcome true 1 (ending ∷ asking ∷ []) ≡ Known Lost
lost_before_starved = refl

not_starved : outcome true 1 (replied ∷ asking ∷ []) ≡ Known (Replied (count_value 5))
not_starved = refl

forgotten : outcome false 1 (Did (Forget 1) ∷ replied ∷ asking ∷ []) ≡ NoRequest
forgotten = refl

other_forgotten : outcome false 2 (Did (Forget 1) ∷ replied ∷ asking ∷ asking ∷ []) ≡ NotYet
other_forgotten = refl

stays_drawn : drawn (Did (Forget 1) ∷ replied ∷ asking ∷ []) ≡ 1
stays_drawn = refl

still_answered : event_of five (Did (Forget 1) ∷ replied ∷ asking ∷ []) ≡ event.Stray
still_answered = refl

first_end : ended (End InputEnded ∷ asking ∷ []) ≡ Some InputEnded
first_end = refl

-- the end that is asked

abbrev heard : RpcItem
heard = Got 0 asked_for

abbrev answering : RpcItem
answering = Did (Respond first (answer.Value (count_value 5)))

asks_service : event_of asked_for [] ≡ event.Asked first target.Root add (params.List (count_value 2 ∷ count_value 3 ∷ []))
asks_service = refl

tells_service : event_of (Notification add params.Absent) [] ≡ event.Told add params.Absent
tells_service = refl

says_nothing_yet : said heard [] ≡ []
says_nothing_yet = refl

waiting : is_waiting first (heard ∷ []) ≡ true
waiting = refl

says_five : said answering (heard ∷ []) ≡ five ∷ []
says_five = refl

says_fault : said (Did (Respond first (answer.Fault (pos 7) add (Some tree.nil)))) (heard ∷ []) ≡ message.Error (Some first) (pos 7) add (Some tree.nil) ∷ []
says_fault = refl

waiting_no_more : is_waiting first (answering ∷ heard ∷ []) ≡ false
waiting_no_more = refl

repeated : message_refusal asked_for (heard ∷ []) ≡ Some reason.DuplicateRequest
repeated = refl

other_text : message_refusal (Request (Name (codes "1")) add params.Absent) (heard ∷ []) ≡ None
other_text = refl

used_again : message_refusal asked_for (answering ∷ heard ∷ []) ≡ None
used_again = refl

told_with_it : message_refusal (Notification add params.Absent) (heard ∷ []) ≡ None
told_with_it = refl

-- there are such lists

abbrev plain : Encoder
plain = record { json = false; size = λ value. 0 }

allowed_here : AreAllowed plain (Did (Forget 1) ∷ ending ∷ replied ∷ asking ∷ [])
allowed_here = (refl, (refl, ((refl, refl), (refl, tt))))

allowed_there : AreAllowed plain (heard ∷ answering ∷ heard ∷ [])
allowed_there = ((refl, refl), (refl, ((refl, refl), tt)))
