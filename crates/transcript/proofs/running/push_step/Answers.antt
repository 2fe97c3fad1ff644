use Rattle.std.proofs.Common.{◌≡◌, ap, ◌∙◌, length, drop, arith}
use Rattle.duo_world.specs.Holding.{output_to}
use Rattle.text_words.specs.Written.{other_side}
use Rattle.transcript.proofs.Emitted.{made_of, step_told, step_lines_are}
use Rattle.transcript.proofs.running.push_step.Goals as goal

pub behind-requires : goal.behind-requires
behind-requires c =
    let made = made_of c.args.duo.now c.step-answer.new.self c.args.step c.step-answer.result (c.step-answer.ensures c.requires) c.in_default.not-OutOfMemory in
    let told = step_told c.args.number c.args.step c.side_of-side.result c.step-answer.result c.args.duo.now c.step-answer.new.self c.side_of-side.ensures made in
    let before : c.in_flight-before.result.now ≡ output_to (other_side c.side_of-side.result) c.args.duo.now = c.in_flight-before.ensures.output ∙ ap (λ side. output_to side c.args.duo.now) c.other_side-other.ensures in
    let after : c.in_flight.result.now ≡ output_to (other_side c.side_of-side.result) c.step-answer.new.self = c.in_flight.ensures.output ∙ ap (λ side. output_to side c.step-answer.new.self) c.other_side-other.ensures in
    omega (arith, told.within, ap length before, ap length after)

pub returns : goal.returns
returns c =
    let made = made_of c.args.duo.now c.step-answer.new.self c.args.step c.step-answer.result (c.step-answer.ensures c.requires) c.in_default.not-OutOfMemory in
    let told = step_told c.args.number c.args.step c.side_of-side.result c.step-answer.result c.args.duo.now c.step-answer.new.self c.side_of-side.ensures made in
    let before : c.in_flight-before.result.now ≡ output_to (other_side c.side_of-side.result) c.args.duo.now = c.in_flight-before.ensures.output ∙ ap (λ side. output_to side c.args.duo.now) c.other_side-other.ensures in
    let after : c.in_flight.result.now ≡ output_to (other_side c.side_of-side.result) c.step-answer.new.self = c.in_flight.ensures.output ∙ ap (λ side. output_to side c.step-answer.new.self) c.other_side-other.ensures in
    record {
      text = step_lines_are c.args.number c.args.step c.side_of-side.result c.step-answer.result c.args.duo.now c.step-answer.new.self c.args.out.now.items _ c.behind.result.now told c.in_ok-push_told.ensures
          (c.behind.ensures ∙ (ap (λ n. drop n c.in_flight.result.now) (ap length before) ∙ ap (drop (length (output_to (other_side c.side_of-side.result) c.args.duo.now))) after));
      made = (c.step-answer.result, made);
    }
