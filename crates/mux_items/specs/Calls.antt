-- The calls of an end, why each is refused, and the item of one that isn't.
use Rattle.std.specs.Prelude.{List, ◌∷◌, Option, Some, None}
use Rattle.wire_base.specs.declared.frame.Version.{Version}
use Rattle.wire_base.specs.declared.refusal.Refusal.{Refusal}
use Rattle.mux_items.specs.declared.call.Call.{Call}
use Rattle.mux_items.specs.declared.call.Call.TheVariants as call
use Rattle.mux_items.specs.Items.{Item, DidOffer, DidAccept, DidWrite, DidRead, DidComplete, DidTerminate}
use Rattle.mux_items.specs.Kept.{next_key}
use Rattle.mux_items.specs.Refusals.{offer_refusal, accept_refusal, write_refusal, read_refusal, complete_refusal, terminate_refusal}

-- why a call is refused, if it is
abbrev pub call_refusal : Version → Call → List Item → Option Refusal
call_refusal v (call.Offer name size) items = offer_refusal v name size items
call_refusal v (call.Accept c size) items = accept_refusal v c size items
call_refusal v (call.Write c bytes) items = write_refusal v c bytes items
call_refusal v (call.Read c max) items = read_refusal v c items
call_refusal v (call.Complete c) items = complete_refusal v c items
call_refusal v (call.Terminate c) items = terminate_refusal v c items

-- the item of an accepted call
abbrev pub item_of_call : Call → List Item → Item
item_of_call (call.Offer name size) items = DidOffer (next_key items) name size
item_of_call (call.Accept c size) items = DidAccept c size
item_of_call (call.Write c bytes) items = DidWrite c bytes
item_of_call (call.Read c max) items = DidRead c max
item_of_call (call.Complete c) items = DidComplete c
item_of_call (call.Terminate c) items = DidTerminate c

abbrev pub unless_refused : Option Refusal → Item → List Item → List Item
unless_refused (Some refusal) item items = items
unless_refused None item items = item ∷ items

-- a refused call changes nothing
abbrev pub called : Version → Call → List Item → List Item
called v c items = unless_refused (call_refusal v c items) (item_of_call c items) items
