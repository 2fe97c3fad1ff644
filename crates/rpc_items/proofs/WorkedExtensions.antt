-- Worked values: cancellation, progress, a sequence in pages, and objects that are passed by handle.
use Rattle.std.specs.Prelude.{ℕ, List, [], ◌∷◌, true, false, codes, Some, None, pos, negsuc}
use Rattle.std.proofs.Common.{◌≡◌, refl}
use Rattle.wire_base.specs.Tree as tree
use Rattle.wire_base.specs.Tree.{Tree, trees_of, pairs_of}
use Rattle.wire_base.specs.declared.refusal.Refusal.TheVariants as refusal
use Rattle.wire_base.specs.declared.state.Cause.TheVariants.{PeerCompleted}
use Rattle.wire_base.specs.declared.text.Id.{Id}
use Rattle.wire_base.specs.declared.text.Id.TheVariants.{Number, Name}
use Rattle.rpc_items.specs.declared.calls.Answer.TheVariants as answer
use Rattle.rpc_items.specs.declared.calls.Arg.TheVariants as arg
use Rattle.rpc_items.specs.declared.calls.Arguments.TheVariants as arguments
use Rattle.rpc_items.specs.declared.calls.Expect.TheVariants.{Plain, Sequence}
use Rattle.rpc_items.specs.declared.calls.Lifetime.TheVariants.{Call, Explicit}
use Rattle.rpc_items.specs.declared.calls.RpcEvent.TheVariants as event
use Rattle.rpc_items.specs.declared.calls.Target.TheVariants as target
use Rattle.rpc_items.specs.declared.messages.Message.{Message}
use Rattle.rpc_items.specs.declared.messages.Message.TheVariants.{Request, Notification}
use Rattle.rpc_items.specs.declared.messages.Message.TheVariants as message
use Rattle.rpc_items.specs.declared.messages.Params.{Params}
use Rattle.rpc_items.specs.declared.messages.Params.TheVariants as params
use Rattle.rpc_items.specs.Keys.{own_key, peer_key}
use Rattle.rpc_items.specs.Methods.{proxy_method}
use Rattle.rpc_items.specs.declared.methods.Meaning.TheVariants.{Serves, Releases, Calls, Mistakes, Unknown}
use Rattle.rpc_items.specs.Meanings.{meaning}
use Rattle.rpc_items.specs.Items.{RpcItem, Did, Got, End, Ask, Respond, Cancel, Report, TakeReport, Next, Abort, Invoke, Release}
use Rattle.rpc_items.specs.Reports.{reports}
use Rattle.rpc_items.specs.Handles.{is_live}
use Rattle.rpc_items.specs.Producing.{answered_values, is_producing}
use Rattle.rpc_items.specs.Sequences.{is_turning, sequence_of}
use Rattle.rpc_items.specs.Saying.{said}
use Rattle.rpc_items.specs.Events.{event_of}
use Rattle.rpc_items.specs.Bodies.{Encoder}
use Rattle.rpc_items.specs.Refusals.{state_refusal}
use Rattle.rpc_items.specs.Allowed.{AreAllowed}
use Rattle.rpc_items.specs.Fitting.{IsFair}

-- values and names

abbrev work : List ℕ
work = codes "work"

abbrev one : Id
one = Number (pos 1)

abbrev two : Id
two = Number (pos 2)

abbrev number : ℕ → Tree
number n = tree.whole (pos n)

abbrev array : List Tree → Tree
array values = tree.items (trees_of values)

abbrev map : List (List ℕ × Tree) → Tree
map ps = tree.pairs (pairs_of ps)

abbrev named : List ℕ → Tree → Params
named name value = params.Named ((name, value) ∷ [])

-- what methods mean

serves : meaning (codes "$work") params.Absent ≡ Serves
serves = refl

unknown : meaning (codes "$/work") params.Absent ≡ Unknown
unknown = refl

proxy : meaning (codes "$/invokeProxy/12/a/b") params.Absent ≡ Calls 12 (codes "a/b")
proxy = refl

long_proxy : meaning (codes "$/invokeProxy/0000000000000000012/a") params.Absent ≡ Calls 12 (codes "a")
long_proxy = refl

too_long_proxy : meaning (codes "$/invokeProxy/00000000000000000012/a") params.Absent ≡ Unknown
too_long_proxy = refl

no_proxy : meaning (codes "$/invokeProxy/x/a") params.Absent ≡ Unknown
no_proxy = refl

no_digits : meaning (codes "$/invokeProxy//a") params.Absent ≡ Unknown
no_digits = refl

too_many : meaning (codes "$/cancelRequest") (params.List (number 1 ∷ number 2 ∷ [])) ≡ Mistakes
too_many = refl

no_id : meaning (codes "$/cancelRequest") (params.List (tree.nil ∷ [])) ≡ Mistakes
no_id = refl

last_release : meaning (codes "$/releaseMarshaledObject") (params.Named ((codes "ownedBySender", tree.flag true) ∷ (codes "handle", number 3) ∷ (codes "handle", number 4) ∷ [])) ≡ Releases (peer_key 4)
last_release = refl

-- cancellation: at the end that asks, and at the one that is asked

abbrev asking : RpcItem
asking = Did (Ask work (arguments.List (arg.Plain (number 5) ∷ arg.Progress ∷ arg.Object 70 Call ∷ arg.Object 80 Explicit ∷ [])) Plain)

abbrev asked_for : Message
asked_for = Request one work (params.List (number 5 ∷ number 1 ∷ map ((codes "__jsonrpc_marshaled", number 1) ∷ (codes "handle", number 1) ∷ (codes "lifetime", tree.words (codes "call")) ∷ []) ∷ map ((codes "__jsonrpc_marshaled", number 1) ∷ (codes "handle", number 2) ∷ (codes "lifetime", tree.words (codes "explicit")) ∷ []) ∷ []))

says_request : said asking [] ≡ asked_for ∷ []
says_request = refl

abbrev heard : RpcItem
heard = Got 0 asked_for

abbrev answering : RpcItem
answering = Did (Respond one (answer.Value tree.nil))

abbrev cancels : Message
cancels = Notification (codes "$/cancelRequest") (named (codes "id") (number 1))

says_cancel : said (Did (Cancel 1)) (asking ∷ []) ≡ cancels ∷ []
says_cancel = refl

cancelled : event_of cancels (heard ∷ []) ≡ event.Cancelled one
cancelled = refl

cancelled_late : event_of cancels (answering ∷ heard ∷ []) ≡ event.Handled (codes "$/cancelRequest")
cancelled_late = refl

cancelled_in_order : event_of (Notification (codes "$/cancelRequest") (params.List (number 1 ∷ []))) (heard ∷ []) ≡ event.Cancelled one
cancelled_in_order = refl

cancel_is_answered : said (Got 5 (Request two (codes "$/cancelRequest") (named (codes "id") (number 1)))) (heard ∷ []) ≡ message.Result two tree.nil ∷ []
cancel_is_answered = refl

bad_cancel : said (Got 5 (Request two (codes "$/cancelRequest") params.Absent)) (heard ∷ []) ≡ message.Error (Some two) (negsuc 32601) (codes "bad arguments") None ∷ []
bad_cancel = refl

bad_method : said (Got 5 (Request two (codes "$/work") params.Absent)) (heard ∷ []) ≡ message.Error (Some two) (negsuc 32600) (codes "no method") None ∷ []
bad_method = refl

bad_method_told : said (Got 5 (Notification (codes "$/work") params.Absent)) (heard ∷ []) ≡ []
bad_method_told = refl

bad_method_handled : event_of (Notification (codes "$/work") params.Absent) (heard ∷ []) ≡ event.Handled (codes "$/work")
bad_method_handled = refl

-- progress

abbrev reports_fifty : Message
reports_fifty = Notification (codes "$/progress") (params.Named ((codes "token", number 1) ∷ (codes "value", number 50) ∷ []))

abbrev reported : RpcItem
reported = Got 0 reports_fifty

abbrev reported_in_order : RpcItem
reported_in_order = Got 7 (Notification (codes "$/progress") (params.List (number 1 ∷ number 60 ∷ [])))

abbrev replied : RpcItem
replied = Got 9 (message.Result one (number 6))

says_report : said (Did (Report one one (number 50))) (heard ∷ []) ≡ reports_fifty ∷ []
says_report = refl

tells_report : event_of reports_fifty (asking ∷ []) ≡ event.Reported 1
tells_report = refl

tells_late_report : event_of reports_fifty (replied ∷ asking ∷ []) ≡ event.Handled (codes "$/progress")
tells_late_report = refl

tells_no_report : event_of reports_fifty (Did (Ask work arguments.Absent Plain) ∷ []) ≡ event.Handled (codes "$/progress")
tells_no_report = refl

keeps_reports : reports 1 (replied ∷ reported_in_order ∷ reported ∷ asking ∷ []) ≡ number 50 ∷ number 60 ∷ []
keeps_reports = refl

ignores_report : reports 1 (reported ∷ replied ∷ asking ∷ []) ≡ []
ignores_report = refl

takes_first : reports 1 (Did (TakeReport 1) ∷ reported_in_order ∷ reported ∷ asking ∷ []) ≡ number 60 ∷ []
takes_first = refl

takes_none : reports 1 (reported ∷ Did (TakeReport 1) ∷ asking ∷ []) ≡ number 50 ∷ []
takes_none = refl

-- a sequence of three, one with the result and then one a page, at the end that answers

abbrev three : List Tree
three = number 1 ∷ number 2 ∷ number 3 ∷ []

abbrev in_pages : RpcItem
in_pages = Did (Respond one (answer.Sequence three 1 1))

abbrev begins : Message
begins = message.Result one (map ((codes "token", number 1) ∷ (codes "values", array (number 1 ∷ [])) ∷ []))

abbrev turns : Id → Message
turns id = Request id (codes "$/enumerator/next") (named (codes "token") (number 1))

abbrev page : Id → Tree → Tree → Message
page id finished values = message.Result id (map ((codes "finished", finished) ∷ (codes "values", values) ∷ []))

says_first : said in_pages (heard ∷ []) ≡ begins ∷ []
says_first = refl

says_whole : said (Did (Respond one (answer.Sequence three 1 3))) (heard ∷ []) ≡ message.Result one (map ((codes "values", array three) ∷ [])) ∷ []
says_whole = refl

says_page : said (Got 50 (turns two)) (in_pages ∷ heard ∷ []) ≡ page two (tree.flag false) (array (number 2 ∷ [])) ∷ []
says_page = refl

says_last_page : said (Got 60 (turns two)) (Got 50 (turns two) ∷ in_pages ∷ heard ∷ []) ≡ page two (tree.flag true) (array (number 3 ∷ [])) ∷ []
says_last_page = refl

says_no_page : said (Got 70 (turns two)) (Got 60 (turns two) ∷ Got 50 (turns two) ∷ in_pages ∷ heard ∷ []) ≡ message.Error (Some two) (negsuc 32000) (codes "no sequence") None ∷ []
says_no_page = refl

all_answered : answered_values 1 (Got 60 (turns two) ∷ Got 50 (turns two) ∷ in_pages ∷ heard ∷ []) ≡ three
all_answered = refl

goes_on : is_producing 1 (Got 50 (turns two) ∷ in_pages ∷ heard ∷ []) ≡ true
goes_on = refl

no_more : is_producing 1 (Got 60 (turns two) ∷ Got 50 (turns two) ∷ in_pages ∷ heard ∷ []) ≡ false
no_more = refl

no_more_after_end : is_producing 1 (End PeerCompleted ∷ in_pages ∷ heard ∷ []) ≡ false
no_more_after_end = refl

-- the same at the end that asks

abbrev counting : RpcItem
counting = Did (Ask (codes "count") arguments.Absent Sequence)

abbrev begun : RpcItem
begun = Got 0 begins

abbrev turning : RpcItem
turning = Did (Next 1)

abbrev stopping : Message
stopping = Notification (codes "$/enumerator/abort") (named (codes "token") (number 1))

adopts : sequence_of 1 (begun ∷ counting ∷ []) ≡ Some one
adopts = refl

adopts_none : sequence_of 1 (begun ∷ asking ∷ []) ≡ None
adopts_none = refl

says_next : said turning (begun ∷ counting ∷ []) ≡ turns two ∷ []
says_next = refl

is_outstanding : state_refusal (Next 1) (turning ∷ begun ∷ counting ∷ []) ≡ Some refusal.NextOutstanding
is_outstanding = refl

turned : is_turning 1 (Got 20 (page two (tree.flag false) (array [])) ∷ turning ∷ begun ∷ counting ∷ []) ≡ false
turned = refl

goes_on_here : state_refusal (Next 1) (Got 20 (page two (tree.flag false) (array [])) ∷ turning ∷ begun ∷ counting ∷ []) ≡ None
goes_on_here = refl

finished : state_refusal (Next 1) (Got 20 (page two (tree.flag true) (array [])) ∷ turning ∷ begun ∷ counting ∷ []) ≡ Some refusal.NoEnumerable
finished = refl

failed : state_refusal (Next 1) (Got 20 (message.Error (Some two) (pos 7) work None) ∷ turning ∷ begun ∷ counting ∷ []) ≡ Some refusal.NoEnumerable
failed = refl

says_abort : said (Did (Abort 1)) (begun ∷ counting ∷ []) ≡ stopping ∷ []
says_abort = refl

given_up : state_refusal (Next 1) (Did (Abort 1) ∷ begun ∷ counting ∷ []) ≡ Some refusal.NoEnumerable
given_up = refl

aborted : is_producing 1 (Got 50 stopping ∷ in_pages ∷ heard ∷ []) ≡ false
aborted = refl

-- objects: at the end that offers them, until the request is answered or they are released

while_asked : is_live (own_key 1) (asking ∷ []) ≡ true
while_asked = refl

not_after : is_live (own_key 1) (replied ∷ asking ∷ []) ≡ false
not_after = refl

explicit_after : is_live (own_key 2) (replied ∷ asking ∷ []) ≡ true
explicit_after = refl

not_after_end : is_live (own_key 2) (End PeerCompleted ∷ asking ∷ []) ≡ false
not_after_end = refl

calls_object : event_of (Request one (codes "$/invokeProxy/1/poke") params.Absent) (asking ∷ []) ≡ event.Asked one (target.Object 70 1) (codes "poke") params.Absent
calls_object = refl

calls_none : event_of (Request one (codes "$/invokeProxy/1/poke") params.Absent) (replied ∷ asking ∷ []) ≡ event.Handled (codes "$/invokeProxy/1/poke")
calls_none = refl

says_no_object : said (Got 0 (Request (Name work) (codes "$/invokeProxy/1/poke") params.Absent)) (replied ∷ asking ∷ []) ≡ message.Error (Some (Name work)) (negsuc 32000) (codes "no object") None ∷ []
says_no_object = refl

-- at the end that holds them

holds : is_live (peer_key 1) (heard ∷ []) ≡ true
holds = refl

holds_no_more : is_live (peer_key 1) (answering ∷ heard ∷ []) ≡ false
holds_no_more = refl

holds_explicit : is_live (peer_key 2) (answering ∷ heard ∷ []) ≡ true
holds_explicit = refl

never_held : state_refusal (Invoke 3 (codes "poke") arguments.Absent Plain) (heard ∷ []) ≡ Some refusal.NoHandle
never_held = refl

too_late : state_refusal (Invoke 1 (codes "poke") arguments.Absent Plain) (answering ∷ heard ∷ []) ≡ Some refusal.Released
too_late = refl

says_proxy : said (Did (Invoke 1 (codes "poke") arguments.Absent Plain)) (heard ∷ []) ≡ Request one (proxy_method 1 (codes "poke")) params.Absent ∷ []
says_proxy = refl

hands_back : said (Did (Ask work (arguments.List (arg.Handed 1 ∷ [])) Plain)) (heard ∷ []) ≡ Request one work (params.List (map ((codes "__jsonrpc_marshaled", number 0) ∷ (codes "handle", number 1) ∷ []) ∷ [])) ∷ []
hands_back = refl

-- objects are adopted where they stand whole, with a lifetime that can end, and the first offer counts

abbrev offers : List ℕ → Tree
offers lifetime = map ((codes "__jsonrpc_marshaled", number 1) ∷ (codes "handle", number 7) ∷ (codes "lifetime", tree.words lifetime) ∷ [])

abbrev told : Tree → RpcItem
told value = Got 0 (Notification work (params.List (value ∷ [])))

told_explicit : is_live (peer_key 7) (told (offers (codes "explicit")) ∷ []) ≡ true
told_explicit = refl

told_for_a_call : is_live (peer_key 7) (told (offers (codes "call")) ∷ []) ≡ false
told_for_a_call = refl

told_for_ever : is_live (peer_key 7) (told (offers (codes "ever")) ∷ []) ≡ false
told_for_ever = refl

told_no_lifetime : is_live (peer_key 7) (told (map ((codes "handle", number 7) ∷ (codes "__jsonrpc_marshaled", number 1) ∷ [])) ∷ []) ≡ true
told_no_lifetime = refl

told_within : is_live (peer_key 7) (told (array (offers (codes "explicit") ∷ [])) ∷ []) ≡ false
told_within = refl

told_named : is_live (peer_key 7) (Got 0 (Notification work (named work (offers (codes "explicit")))) ∷ []) ≡ true
told_named = refl

handed_back : is_live (peer_key 7) (told (map ((codes "__jsonrpc_marshaled", number 0) ∷ (codes "handle", number 7) ∷ [])) ∷ []) ≡ false
handed_back = refl

told_by_extension : is_live (peer_key 7) (Got 0 (Notification (codes "$/work") (params.List (offers (codes "explicit") ∷ []))) ∷ []) ≡ false
told_by_extension = refl

abbrev results : Tree → RpcItem
results value = Got 9 (message.Result one value)

result_explicit : is_live (peer_key 7) (results (offers (codes "explicit")) ∷ asking ∷ []) ≡ true
result_explicit = refl

result_for_a_call : is_live (peer_key 7) (results (offers (codes "call")) ∷ asking ∷ []) ≡ false
result_for_a_call = refl

stray_result : is_live (peer_key 7) (results (offers (codes "explicit")) ∷ replied ∷ asking ∷ []) ≡ false
stray_result = refl

first_offer : is_live (peer_key 1) (answering ∷ told (map ((codes "__jsonrpc_marshaled", number 1) ∷ (codes "handle", number 1) ∷ [])) ∷ heard ∷ []) ≡ false
first_offer = refl

-- a handle that both sides release, with their releases crossing

abbrev releases_own : RpcItem
releases_own = Did (Release (own_key 2))

abbrev releases_peers : RpcItem
releases_peers = Did (Release (peer_key 2))

abbrev release_of : Tree → Message
release_of by_sender = Notification (codes "$/releaseMarshaledObject") (params.Named ((codes "handle", number 2) ∷ (codes "ownedBySender", by_sender) ∷ []))

says_release : said releases_own (asking ∷ []) ≡ release_of (tree.flag true) ∷ []
says_release = refl

says_release_too : said releases_peers (heard ∷ []) ≡ release_of (tree.flag false) ∷ []
says_release_too = refl

released : event_of (release_of (tree.flag false)) (asking ∷ []) ≡ event.Released (own_key 2)
released = refl

released_before : event_of (release_of (tree.flag false)) (releases_own ∷ asking ∷ []) ≡ event.Handled (codes "$/releaseMarshaledObject")
released_before = refl

released_at_holder : event_of (release_of (tree.flag true)) (releases_peers ∷ heard ∷ []) ≡ event.Handled (codes "$/releaseMarshaledObject")
released_at_holder = refl

ends_at_holder : is_live (peer_key 2) (Got 5 (release_of (tree.flag true)) ∷ heard ∷ []) ≡ false
ends_at_holder = refl

release_twice : state_refusal (Release (own_key 2)) (releases_own ∷ asking ∷ []) ≡ Some refusal.Released
release_twice = refl

no_call_after_release : state_refusal (Invoke 2 (codes "poke") arguments.Absent Plain) (releases_peers ∷ heard ∷ []) ≡ Some refusal.Released
no_call_after_release = refl

-- there are such lists, and such encodings

abbrev plain : Encoder
plain = record { json = false; size = λ value. 0 }

allowed : AreAllowed plain (Got 50 (turns two) ∷ in_pages ∷ heard ∷ [])
allowed = ((refl, refl), (refl, ((refl, refl), tt)))

allowed_too : AreAllowed plain (Did (TakeReport 1) ∷ reported ∷ releases_own ∷ asking ∷ [])
allowed_too = (refl, ((refl, refl), (refl, (refl, tt))))

fair : IsFair plain
fair = record { page = λ id page n s. refl; nil = λ id n. refl; fault = λ id code text n c l. refl }
