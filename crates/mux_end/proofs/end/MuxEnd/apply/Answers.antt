use Rattle.std.specs.Prelude.{Err}
use Rattle.std.proofs.Common.{◌≡◌, sym, ◌∙◌, ap, subst}
use Rattle.wire_base.specs.declared.state.Cause.TheVariants.{Refused}
use Rattle.frame_text.specs.Reading.{front}
use Rattle.mux_items.specs.Bodies.{ChannelFrame, body_of, frame_on}
use Rattle.mux_state.specs.Book.{Book, frame_in, is_ready_book}
use Rattle.mux_end.specs.declared.step.MuxStep.TheVariants as step
use Rattle.mux_end.specs.Ends.{Steps, frame_arrives, state_in, value_in, with_end}
use Rattle.mux_end.specs.Reader.{IsReaderOf}
use Rattle.mux_end.specs.Stands.{EndValue}
use Rattle.mux_end.proofs.Applied.{frame_named, frame_refused, frame_taken, refused_by, skips}
use Rattle.mux_end.proofs.end.MuxEnd.apply.Goals as goal

pub skip-requires : goal.skip-requires
skip-requires c =
    let same : front c.self.inside.reader.version c.self.inside.reader.rest ≡ front c.args.self.now.version c.args.self.now.rest =
    ap (λ v. front v c.self.inside.reader.rest) c.self.invariant.one_version ∙ ap (λ (e : EndValue). front e.version e.rest) c.self.view_is in
    (c.args.frame.now, same ∙ c.requires.whole)

pub invariant_of-self : goal.invariant_of-self
invariant_of-self c =
    let same : front c.self.inside.reader.version c.self.inside.reader.rest ≡ front c.args.self.now.version c.args.self.now.rest =
    ap (λ v. front v c.self.inside.reader.rest) c.self.invariant.one_version ∙ ap (λ (e : EndValue). front e.version e.rest) c.self.view_is in
    subst (IsReaderOf c.take.new.self) (sym c.skip.ensures)
    (skips c.self.inside.book c.take.new.self c.self.inside.reader c.args.frame.now c.args.size c.self.invariant c.take.ensures.one_version c.take.ensures.one_party
    (ap (λ (e : EndValue). is_ready_book e.book) c.self.view_is ∙ c.requires.ready) (same ∙ c.requires.whole))

pub returns-in-Ok-clause-steps : goal.returns-in-Ok-clause-steps
returns-in-Ok-clause-steps c =
    let frame = c.args.frame.now in
    let now = c.args.self.now in
    let named = frame_named c.self.inside.book now.book frame c.party.result c.key_of-key.result (ap (λ (e : EndValue). e.book) c.self.view_is) c.party.ensures c.key_of-key.ensures in
    let new = value_in c.self.inside.nonce c.take.new.self c.take.new.out.items c.skip.new.self c.self.inside.stopped in
    subst (λ (f : ChannelFrame). Steps now new (frame_arrives now f c.args.size) (step.Event c.in-Ok.event)) named
    (frame_taken c.self.inside.nonce c.self.inside.output.items c.take.new.out.items c.self.inside.book c.take.new.self c.self.inside.reader c.skip.new.self c.self.inside.stopped
    (frame_on c.key_of-key.result (body_of frame.code frame.payload)) c.args.size now c.in-Ok.event c.self.view_is
    (c.in-Ok.ensures.takes c.self.inside.reader.at) c.in-Ok.ensures.event (c.in-Ok.ensures.output c.self.inside.reader.at) c.skip.ensures)

pub refuse-requires : goal.refuse-requires
refuse-requires c =
    let frame = c.args.frame.now in
    let book = c.self.inside.book in
    let refused = refused_by _ (frame_in c.key_of-key.result (body_of frame.code frame.payload) book) book _ c.take.new.self c.in-Err-Refused.field-0 c.in-Err-Refused.reason c.in-Err-Refused.field-0-is (c.in-Err-Refused.ensures.takes 0) in
    ap (λ (b : Book). state_in c.self.inside.stopped b.cause) refused.1 ∙ (ap (λ (e : EndValue). e.state) c.self.view_is ∙ c.requires.running)

pub returns-in-Err-Refused-clause-steps : goal.returns-in-Err-Refused-clause-steps
returns-in-Err-Refused-clause-steps c =
    let frame = c.args.frame.now in
    let now = c.args.self.now in
    let book = c.self.inside.book in
    let body = body_of frame.code frame.payload in
    let refused = refused_by _ (frame_in c.key_of-key.result body book) book _ c.take.new.self c.in-Err-Refused.field-0 c.in-Err-Refused.reason c.in-Err-Refused.field-0-is (c.in-Err-Refused.ensures.takes 0) in
    let unwritten = c.take.ensures.unwritten c.in-Err-Refused.reason (c.in-Err-Refused.is ∙ ap Err c.in-Err-Refused.field-0-is) in
    let named = frame_named book now.book frame c.party.result c.key_of-key.result (ap (λ (e : EndValue). e.book) c.self.view_is) c.party.ensures c.key_of-key.ensures in
    let same : value_in c.self.inside.nonce c.take.new.self c.take.new.out.items c.self.inside.reader c.self.inside.stopped ≡ now =
    (λ i. value_in c.self.inside.nonce (refused.1 i) (unwritten i) c.self.inside.reader c.self.inside.stopped) ∙ c.self.view_is in
    subst (λ (f : ChannelFrame). Steps now c.refuse.new.self (frame_arrives now f c.args.size) c.refuse.result) named
    (frame_refused now c.refuse.new.self (frame_on c.key_of-key.result body) c.args.size c.in-Err-Refused.reason c.place-place.result c.refuse.result
    (ap (λ (e : EndValue). frame_in c.key_of-key.result body e.book) (sym c.self.view_is) ∙ refused.0) (c.place-place.ensures ∙ ap (λ (e : EndValue). e.at) c.self.view_is)
    (c.refuse.ensures.end ∙ ap (with_end (Refused c.place-place.result c.in-Err-Refused.reason)) same) c.refuse.ensures.answer)
