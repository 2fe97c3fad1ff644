-- What a call or a frame makes of a kept channel's entry.
use Rattle.std.specs.Prelude.{◌++◌, List, ℕ, Bool, true, false, if◌then◌else◌, Option, Some, None, Result, Ok, Err, OnOk}
use Rattle.std.proofs.Common.{◌≡◌, refl, sym, ◌∙◌, ap, subst, append_assoc}
use Rattle.wire_base.specs.declared.fault.CallFault.{CallFault}
use Rattle.wire_base.specs.declared.fault.CallFault.TheVariants as fault
use Rattle.wire_base.specs.declared.frame.Version.{Version}
use Rattle.wire_base.specs.declared.reason.Reason.{Reason}
use Rattle.wire_base.specs.declared.refusal.Refusal.{Refusal}
use Rattle.channel_credit.specs.Answers.{CallLeaves, TakeLeaves}
use Rattle.channel_credit.specs.declared.take_fault.TakeFault.{TakeFault}
use Rattle.channel_credit.specs.declared.take_fault.TakeFault.TheVariants as take_fault
use Rattle.mux_items.specs.declared.channel.ChannelKey.{ChannelKey}
use Rattle.mux_items.specs.Bodies.{FrameBody, Offer, OfferAccepted, Content, ContentWritingCompleted, ChannelTerminated, ContentProcessed, ChannelFrame, frame_texts}
use Rattle.mux_items.proofs.Texts.{frame_texts-append}
use Rattle.mux_state.specs.State.{ChannelState}
use Rattle.mux_state.specs.Next.{settled, framed_state, frames_due}
use Rattle.mux_state.specs.Tests.{on_kept, frame_test}
use Rattle.mux_state.specs.Book.{Entry, changed_entry, entry_at, frame_on_found, kept_in}
use Rattle.mux_end.specs.declared.channel_call.ChannelCall.{ChannelCall}
use Rattle.mux_end.specs.ChannelCalls.{called_frames, made_state, own_frame}
use Rattle.mux_end.specs.Known.{Leaves, Takes, IsOf, frames_in, frames_after, heeds}

-- a call that fails
failed_at : (A B : Type 0) (k : ChannelKey) (s after n : ChannelState) (final : Entry) (refused : Option Refusal) (why : CallFault) → Leaves {A = A} refused s after n (Err why) → Leaves {A = B} refused (entry_at k s) final (entry_at k n) (Err why)
failed_at A B k s after n final None fault.OutOfMemory h = tt
failed_at A B k s after n final None (fault.Refused r) h = absurd h
failed_at A B k s after n final (Some r) (fault.Refused t) h = (h.0, ap (entry_at k) h.1)
failed_at A B k s after n final (Some r) fault.OutOfMemory h = absurd h

pub call_failed : (A B : Type 0) (old : Entry) (k : ChannelKey) (s n : ChannelState) (test : ChannelState → Option Refusal) (alter change : ChannelState → ChannelState) (why : CallFault) → entry_at k s ≡ old
    → Leaves {A = A} (test s) s (alter s) n (Err why) → Leaves {A = B} (on_kept (kept_in (Some old.standing)) test) old (changed_entry change old) (entry_at k n) (Err why)
call_failed A B old k s n test alter change why is h =
    subst (λ (o : Entry). Leaves {A = B} (on_kept (kept_in (Some o.standing)) test) o (changed_entry change o) (entry_at k n) (Err why)) is
    (failed_at A B k s (alter s) n (changed_entry change (entry_at k s)) (test s) why h)

-- a call that is done, and then what is due
done_at : {A B : Type 0} (k : ChannelKey) (s after n : ChannelState) (new : Entry) (refused : Option Refusal) (x : A) (result : Result B CallFault) → Leaves refused s after n (Ok x) → Leaves None (entry_at k n) (changed_entry settled (entry_at k n)) new result
    → Leaves refused (entry_at k s) (changed_entry settled (entry_at k after)) new result
done_at k s after n new None x (Ok y) h g = g ∙ ap (λ t. changed_entry settled (entry_at k t)) h
done_at k s after n new None x (Err fault.OutOfMemory) h g = tt
done_at k s after n new None x (Err (fault.Refused r)) h g = absurd g
done_at k s after n new (Some r) x result h g = absurd h

pub call_done : {A B : Type 0} (old : Entry) (k : ChannelKey) (s n : ChannelState) (new : Entry) (test : ChannelState → Option Refusal) (alter : ChannelState → ChannelState) (x : A) (result : Result B CallFault) → entry_at k s ≡ old
    → Leaves (test s) s (alter s) n (Ok x) → Leaves None (entry_at k n) (changed_entry settled (entry_at k n)) new result → Leaves (on_kept (kept_in (Some old.standing)) test) old (changed_entry (λ t. settled (alter t)) old) new result
call_done old k s n new test alter x result is h g =
    subst (λ (o : Entry). Leaves (on_kept (kept_in (Some o.standing)) test) o (changed_entry (λ t. settled (alter t)) o) new result) is (done_at k s (alter s) n new (test s) x result h g)

done_state : {A : Type 0} (s after n : ChannelState) (refused : Option Refusal) (x : A) → Leaves refused s after n (Ok x) → n ≡ after
done_state s after n None x h = h
done_state s after n (Some r) x h = absurd h

-- the frame of the call itself goes before what is due
output_at : {B : Type 0} (v : Version) (own due : List ChannelFrame) (out mid written : List ℕ) (result : Result B CallFault) → mid ≡ out ++ frame_texts v own → OnOk result (written ≡ mid ++ frame_texts v due) → OnOk result (written ≡ out ++ frame_texts v (own ++ due))
output_at v own due out mid written (Ok x) first h = h ∙ (ap (λ bs. bs ++ frame_texts v due) first ∙ (append_assoc out (frame_texts v own) (frame_texts v due) ∙ ap (λ bs. out ++ bs) (sym (frame_texts-append v own due))))
output_at v own due out mid written (Err e) first h = tt

pub call_output : {A B : Type 0} (v : Version) (old : Entry) (k : ChannelKey) (s n : ChannelState) (call : ChannelCall) (refused : Option Refusal) (x : A) (out mid written : List ℕ) (result : Result B CallFault) → entry_at k s ≡ old
    → Leaves refused s (made_state call s) n (Ok x) → mid ≡ out ++ frame_texts v (own_frame k call)
    → OnOk result (written ≡ mid ++ frame_texts v (frames_in k (entry_at k n).standing)) → OnOk result (written ≡ out ++ frame_texts v (called_frames old.key call (Some old.standing)))
call_output v old k s n call refused x out mid written result is h first g =
    subst (λ (o : Entry). OnOk result (written ≡ out ++ frame_texts v (called_frames o.key call (Some o.standing)))) is
    (output_at v (own_frame k call) (frames_due k (made_state call s)) out mid written result first
    (subst (λ t. OnOk result (written ≡ mid ++ frame_texts v (frames_due k t))) (done_state s (made_state call s) n refused x h) g))

-- no call changes a channel's version
pub version_kept : {A : Type 0} (s after n : ChannelState) (refused : Option Refusal) (result : Result A CallFault) → after.version ≡ s.version → CallLeaves refused s after n result → n.version ≡ s.version
version_kept s after n None (Ok x) same h = ap (λ (t : ChannelState). t.version) h ∙ same
version_kept s after n None (Err fault.OutOfMemory) same h = ap (λ (t : ChannelState). t.version) h
version_kept s after n None (Err (fault.Refused r)) same h = absurd h
version_kept s after n (Some r) (Err (fault.Refused t)) same h = ap (λ (t : ChannelState). t.version) h.1
version_kept s after n (Some r) (Err fault.OutOfMemory) same h = absurd h
version_kept s after n (Some r) (Ok x) same h = absurd h

pub call_stays : (v : Version) (old : Entry) (k : ChannelKey) (s n : ChannelState) → entry_at k s ≡ old → n.version ≡ s.version → IsOf v old → IsOf v (entry_at k n)
call_stays v old k s n is same of =
    let here : IsOf v (entry_at k s) = subst (IsOf v) (sym is) of in
    record { fits = here.fits; one_version = same ∙ here.one_version }

-- a frame that isn't taken
untaken_at : (B : Type 0) (k : ChannelKey) (s after n : ChannelState) (final : Entry) (refused : Option Reason) (why : TakeFault) → TakeLeaves {A = Unit {0}} refused s after n (Err why) → Takes {A = B} refused (entry_at k s) final (entry_at k n) (Err why)
untaken_at B k s after n final None take_fault.OutOfMemory h = tt
untaken_at B k s after n final None (take_fault.Refused r) h = absurd h
untaken_at B k s after n final (Some r) (take_fault.Refused t) h = (h.0, ap (entry_at k) h.1)
untaken_at B k s after n final (Some r) take_fault.OutOfMemory h = absurd h

pub untaken : (B : Type 0) (old : Entry) (k : ChannelKey) (s after n : ChannelState) (body : FrameBody) (change : ChannelState → ChannelState) (why : TakeFault) → entry_at k s ≡ old
    → TakeLeaves {A = Unit {0}} (frame_test body s) s after n (Err why) → Takes {A = B} (frame_on_found body (Some old.standing)) old (changed_entry change old) (entry_at k n) (Err why)
untaken B old k s after n body change why is h =
    subst (λ (o : Entry). Takes {A = B} (frame_on_found body (Some o.standing)) o (changed_entry change o) (entry_at k n) (Err why)) is (untaken_at B k s after n (changed_entry change (entry_at k s)) (frame_test body s) why h)

-- a frame that is taken, and then what is due
taken_at : {A : Type 0} (k : ChannelKey) (s after n : ChannelState) (new : Entry) (refused : Option Reason) (x : A) (u : Unit {0}) → TakeLeaves refused s after n (Ok u) → new ≡ changed_entry settled (entry_at k n)
    → Takes refused (entry_at k s) (changed_entry settled (entry_at k after)) new (Ok x)
taken_at k s after n new None x u h g = g ∙ ap (λ t. changed_entry settled (entry_at k t)) h
taken_at k s after n new (Some r) x u h g = absurd h

pub taken_whole : {A : Type 0} (old : Entry) (k : ChannelKey) (s n : ChannelState) (new : Entry) (body : FrameBody) (x : A) (u : Unit {0}) → entry_at k s ≡ old
    → TakeLeaves (frame_test body s) s (framed_state body s) n (Ok u) → new ≡ changed_entry settled (entry_at k n) → Takes (frame_on_found body (Some old.standing)) old (changed_entry (heeds body) old) new (Ok x)
taken_whole old k s n new body x u is h g =
    subst (λ (o : Entry). Takes (frame_on_found body (Some o.standing)) o (changed_entry (heeds body) o) new (Ok x)) is (taken_at k s (framed_state body s) n new (frame_test body s) x u h g)

starved_at : (B : Type 0) (k : ChannelKey) (s after n : ChannelState) (final new : Entry) (refused : Option Reason) (u : Unit {0}) → TakeLeaves refused s after n (Ok u) → Takes {A = B} refused (entry_at k s) final new (Err take_fault.OutOfMemory)
starved_at B k s after n final new None u h = tt
starved_at B k s after n final new (Some r) u h = absurd h

pub taken_starved : (B : Type 0) (old : Entry) (k : ChannelKey) (s after n : ChannelState) (new : Entry) (body : FrameBody) (change : ChannelState → ChannelState) (u : Unit {0}) → entry_at k s ≡ old
    → TakeLeaves (frame_test body s) s after n (Ok u) → Takes {A = B} (frame_on_found body (Some old.standing)) old (changed_entry change old) new (Err take_fault.OutOfMemory)
taken_starved B old k s after n new body change u is h =
    subst (λ (o : Entry). Takes {A = B} (frame_on_found body (Some o.standing)) o (changed_entry change o) new (Err take_fault.OutOfMemory)) is (starved_at B k s after n (changed_entry change (entry_at k s)) new (frame_test body s) u h)

taken_state : (s after n : ChannelState) (refused : Option Reason) (u : Unit {0}) → TakeLeaves refused s after n (Ok u) → n ≡ after
taken_state s after n None u h = h
taken_state s after n (Some r) u h = absurd h

pub taken_output : (v : Version) (old : Entry) (k : ChannelKey) (s n : ChannelState) (refused : Option Reason) (body : FrameBody) (out written : List ℕ) (u : Unit {0}) → entry_at k s ≡ old → TakeLeaves refused s (framed_state body s) n (Ok u)
    → written ≡ out ++ frame_texts v (frames_in k (entry_at k n).standing) → written ≡ out ++ frame_texts v (frames_after old.key body (Some old.standing))
taken_output v old k s n refused body out written u is h g =
    subst (λ (o : Entry). written ≡ out ++ frame_texts v (frames_after o.key body (Some o.standing))) is
    (g ∙ ap (λ t. out ++ frame_texts v (frames_in k (entry_at k t).standing)) (taken_state s (framed_state body s) n refused u h))

-- no frame changes a channel's version
sent_version : (b : Bool) (s next : ChannelState) → next.version ≡ s.version → (if b then s else next).version ≡ s.version
sent_version true s next e = refl
sent_version false s next e = e

framed_version : (body : FrameBody) (s : ChannelState) → (framed_state body s).version ≡ s.version
framed_version (Offer name size) s = refl
framed_version (OfferAccepted size) s = sent_version s.termination_sent s _ refl
framed_version (Content bytes) s = sent_version s.termination_sent s _ refl
framed_version ContentWritingCompleted s = sent_version s.termination_sent s _ refl
framed_version ChannelTerminated s = refl
framed_version (ContentProcessed count) s = sent_version s.termination_sent s _ refl

version_taken : {A : Type 0} (s after n : ChannelState) (refused : Option Reason) (result : Result A TakeFault) → after.version ≡ s.version → TakeLeaves refused s after n result → n.version ≡ s.version
version_taken s after n None (Ok x) same h = ap (λ (t : ChannelState). t.version) h ∙ same
version_taken s after n None (Err take_fault.OutOfMemory) same h = ap (λ (t : ChannelState). t.version) h
version_taken s after n None (Err (take_fault.Refused r)) same h = absurd h
version_taken s after n (Some r) (Err (take_fault.Refused t)) same h = ap (λ (t : ChannelState). t.version) h.1
version_taken s after n (Some r) (Err take_fault.OutOfMemory) same h = absurd h
version_taken s after n (Some r) (Ok x) same h = absurd h

pub take_stays : {A : Type 0} (v : Version) (old : Entry) (k : ChannelKey) (s n : ChannelState) (body : FrameBody) (refused : Option Reason) (result : Result A TakeFault) → entry_at k s ≡ old
    → TakeLeaves refused s (framed_state body s) n result → IsOf v old → IsOf v (entry_at k n)
take_stays v old k s n body refused result is h of =
    let here : IsOf v (entry_at k s) = subst (IsOf v) (sym is) of in
    record { fits = here.fits; one_version = version_taken s (framed_state body s) n refused result (framed_version body s) h ∙ here.one_version }
