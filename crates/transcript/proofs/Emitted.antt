-- What a side emits in a step.
use Rattle.std.specs.Prelude.{codes, Option, Some, None}
use Rattle.std.specs.Fmt.{decimal}
use Rattle.std.proofs.Common.{◌≡◌, ℕ, ◌≤◌, List, [], ◌++◌, length, drop, refl, sym, ◌∙◌, ap, ap₂, subst, arith, length-append}
use Rattle.std.proofs.lemmas.List.{append-nil, drop_at, drop_all}
use Rattle.wire_base.specs.declared.frame.Version.{Version}
use Rattle.mux_run.specs.declared.steps.Side.{Side}
use Rattle.mux_run.specs.declared.steps.Side.TheVariants.{A, B}
use Rattle.mux_run.specs.Run.{Terms, out}
use Rattle.endpoint_items.specs.Asked.{made_by}
use Rattle.endpoint_items.specs.Calls.{EndCall}
use Rattle.endpoint_items.specs.Items.{EndItem}
use Rattle.endpoint_items.specs.Layers.{mux_of}
use Rattle.endpoint_run.specs.declared.answers.DuoAnswer.{DuoAnswer}
use Rattle.endpoint_run.specs.declared.answers.DuoAnswer.TheVariants as duo
use Rattle.endpoint_run.specs.declared.steps.Step.{Step}
use Rattle.endpoint_run.specs.declared.steps.Step.TheVariants as step
use Rattle.endpoint_run.specs.Answers.{answer, called_step, made_step, run, side_of, world_by}
use Rattle.endpoint_run.specs.Run.{EndWorld}
use Rattle.endpoint_run.proofs.Telling.{run_goes_on}
use Rattle.duo_world.specs.Holding.{DuoState, output_to}
use Rattle.duo_world.specs.Stepping.{EmitsOn, IsStepped, Steps}
use Rattle.text_words.specs.Written.{other_side}
use Rattle.transcript.specs.Words.{emitted_line}
use Rattle.transcript.specs.Report.{answer_lines, newly_out, step_lines}

-- what an output grew by
pub record GrewBy (more old new : List ℕ) : Type 0 where
  pub within : length old ≤ length new
  pub bytes : drop (length old) new ≡ more

grew_by : (more old new : List ℕ) → new ≡ old ++ more → GrewBy more old new
grew_by more old new is = record {
  within = omega (arith, ap length is, length-append old more);
  bytes = ap (drop (length old)) is ∙ drop_at old more (length old) refl;
}

-- a step leaves the side that it isn't made at
called_keeps_b : (terms : Terms) (c : Option EndCall) (w : EndWorld) → (world_by terms (called_step A c) w).b ≡ w.b
called_keeps_b terms (Some c) w = refl
called_keeps_b terms None w = refl

called_keeps_a : (terms : Terms) (c : Option EndCall) (w : EndWorld) → (world_by terms (called_step B c) w).a ≡ w.a
called_keeps_a terms (Some c) w = refl
called_keeps_a terms None w = refl

keeps_b : (terms : Terms) (s : Step) (w : EndWorld) → A ≡ side_of s → (world_by terms (made_step s) w).b ≡ w.b
keeps_b terms (step.Call A asked) w at = called_keeps_b terms (made_by asked) w
keeps_b terms (step.Call B asked) w at = cc
keeps_b terms (step.Deliver A n) w at = refl
keeps_b terms (step.Deliver B n) w at = cc
keeps_b terms (step.End A) w at = refl
keeps_b terms (step.End B) w at = cc

keeps_a : (terms : Terms) (s : Step) (w : EndWorld) → B ≡ side_of s → (world_by terms (made_step s) w).a ≡ w.a
keeps_a terms (step.Call A asked) w at = cc
keeps_a terms (step.Call B asked) w at = called_keeps_a terms (made_by asked) w
keeps_a terms (step.Deliver A n) w at = cc
keeps_a terms (step.Deliver B n) w at = refl
keeps_a terms (step.End A) w at = cc
keeps_a terms (step.End B) w at = refl

-- nothing is emitted by a side that the step isn't at
nothing_new : (v : Version) (nonce : List ℕ) (items : List EndItem) → newly_out v nonce items items ≡ []
nothing_new v nonce items = drop_all (length (out v nonce (mux_of v items))) (out v nonce (mux_of v items)) (omega arith)

-- the lines of a step at either side, by what its output grew by
pub record StepTold (terms : Terms) (k : ℕ) (s : Step) (w : EndWorld) (side : Side) (result : DuoAnswer) (old new : DuoState) : Type 0 where
  pub within : length (output_to (other_side side) old) ≤ length (output_to (other_side side) new)
  pub text : decimal k ++ codes " " ++ answer_lines side result ++ emitted_line side (drop (length (output_to (other_side side) old)) (output_to (other_side side) new)) ≡ step_lines terms k s w

-- the lines of a step by all that is in them
abbrev step_text : ℕ → Side → DuoAnswer → (of_a of_b : List ℕ) → List ℕ
step_text k side result of_a of_b = decimal k ++ codes " " ++ answer_lines side result ++ emitted_line A of_a ++ emitted_line B of_b

alone_a : (k : ℕ) (result : DuoAnswer) (bytes : List ℕ) → decimal k ++ codes " " ++ answer_lines A result ++ emitted_line A bytes ≡ step_text k A result bytes []
alone_a k result bytes = sym (append-nil (decimal k ++ codes " " ++ answer_lines A result ++ emitted_line A bytes))

alone_b : (k : ℕ) (result : DuoAnswer) (bytes : List ℕ) → decimal k ++ codes " " ++ answer_lines B result ++ emitted_line B bytes ≡ step_text k B result [] bytes
alone_b k result bytes = ap (λ bs. bs ++ emitted_line B bytes) (sym (append-nil (decimal k ++ codes " " ++ answer_lines B result)))

-- they are those of the run, where each part is
step_text-is : (terms : Terms) (k : ℕ) (s : Step) (w after : EndWorld) (side : Side) (result : DuoAnswer) (of_a of_b : List ℕ) → side ≡ side_of s → result ≡ answer terms s w → after ≡ world_by terms (made_step s) w
    → of_a ≡ newly_out terms.version terms.nonce_a w.a.items after.a.items → of_b ≡ newly_out terms.version terms.nonce_b w.b.items after.b.items → step_text k side result of_a of_b ≡ step_lines terms k s w
step_text-is terms k s w after side result of_a of_b at is world a b =
    ap₂ (λ side r. step_text k side r of_a of_b) at is
    ∙ (ap₂ (step_text k (side_of s) (answer terms s w)) a b
    ∙ ap (λ u. step_text k (side_of s) (answer terms s w) (newly_out terms.version terms.nonce_a w.a.items u.a.items) (newly_out terms.version terms.nonce_b w.b.items u.b.items)) world)

told_at : (terms : Terms) (k : ℕ) (s : Step) (w after : EndWorld) (side : Side) (result : DuoAnswer) (old new : DuoState) → side ≡ side_of s → result ≡ answer terms s w → after ≡ world_by terms (made_step s) w
    → EmitsOn side terms w after old.a new.a old.b new.b → StepTold terms k s w side result old new
told_at terms k s w after A result old new at is world emits =
    let e = grew_by (newly_out terms.version terms.nonce_a w.a.items after.a.items) old.a.mux.output new.a.mux.output emits.own_output in
    let other : after.b ≡ w.b = ap (λ u. u.b) world ∙ keeps_b terms s w at in
    let none : [] ≡ newly_out terms.version terms.nonce_b w.b.items after.b.items =
    sym (ap (λ y. newly_out terms.version terms.nonce_b w.b.items y.items) other ∙ nothing_new terms.version terms.nonce_b w.b.items) in
    record {
      within = e.within;
      text = alone_a k result (drop (length old.a.mux.output) new.a.mux.output) ∙ step_text-is terms k s w after A result (drop (length old.a.mux.output) new.a.mux.output) [] at is world e.bytes none;
    }
told_at terms k s w after B result old new at is world emits =
    let e = grew_by (newly_out terms.version terms.nonce_b w.b.items after.b.items) old.b.mux.output new.b.mux.output emits.own_output in
    let other : after.a ≡ w.a = ap (λ u. u.a) world ∙ keeps_a terms s w at in
    let none : [] ≡ newly_out terms.version terms.nonce_a w.a.items after.a.items =
    sym (ap (λ y. newly_out terms.version terms.nonce_a w.a.items y.items) other ∙ nothing_new terms.version terms.nonce_a w.a.items) in
    record {
      within = e.within;
      text = alone_b k result (drop (length old.b.mux.output) new.b.mux.output) ∙ step_text-is terms k s w after B result [] (drop (length old.b.mux.output) new.b.mux.output) at is world none e.bytes;
    }

-- the run of one more step
run_is : (old new : DuoState) (s : Step) (result : DuoAnswer) → IsStepped old new s result → run new.terms new.steps ≡ world_by old.terms (made_step s) (run old.terms old.steps)
run_is old new s result made = ap (λ t. run t new.steps) made.terms_are ∙ (ap (run old.terms) made.steps_are ∙ run_goes_on old.terms s old.steps)

pub step_told : (k : ℕ) (s : Step) (side : Side) (result : DuoAnswer) (old new : DuoState) → side ≡ side_of s → IsStepped old new s result → StepTold old.terms k s (run old.terms old.steps) side result old new
step_told k s side result old new at made =
    let w = run old.terms old.steps in
    let after = run new.terms new.steps in
    let emits : EmitsOn side old.terms w after old.a new.a old.b new.b = subst (λ at. EmitsOn at old.terms w after old.a new.a old.b new.b) (sym at) made.emits in
    told_at old.terms k s w after side result old new at made.reply_is (run_is old new s result made) emits

-- a step that didn't want memory was made
pub made_of : (old new : DuoState) (s : Step) (result : DuoAnswer) → Steps old new s result → (result ≡ duo.OutOfMemory → ⊥) → IsStepped old new s result
made_of old new s duo.OutOfMemory h works = absurd (works refl)
made_of old new s (duo.Replied reply events) h works = h
made_of old new s (duo.Delivered count events) h works = h
made_of old new s duo.Ended h works = h

-- the lines of a step, by what its side emitted in it
pub step_lines_are : (k : ℕ) (s : Step) (side : Side) (result : DuoAnswer) (old new : DuoState) (out now bytes : List ℕ) → StepTold old.terms k s (run old.terms old.steps) side result old new
    → now ≡ out ++ (decimal k ++ codes " " ++ answer_lines side result ++ emitted_line side bytes) → bytes ≡ drop (length (output_to (other_side side) old)) (output_to (other_side side) new)
    → now ≡ out ++ step_lines old.terms k s (run old.terms old.steps)
step_lines_are k s side result old new out now bytes told h is =
    h ∙ ap (λ bs. out ++ bs) (ap (λ b. decimal k ++ codes " " ++ answer_lines side result ++ emitted_line side b) is ∙ told.text)
