-- At every moment of every run the two ends are together.
use Rattle.std.specs.Prelude.{ℕ, zero, suc, ◌+◌, List, [], ◌∷◌, ◌++◌, length, take, map}
use Rattle.std.proofs.Common.{◌≡◌, ◌⊎◌, inl, inr, refl, sym, ◌∙◌, ap, append_assoc, subst, arith, length-append, add-one}
use Rattle.std.proofs.lemmas.List.{map-append, take-map}
use Rattle.wire_base.specs.declared.frame.Version.{Version}
use Rattle.wire_base.specs.declared.state.Cause.TheVariants as cause
use Rattle.mux_items.specs.Bodies.{flip}
use Rattle.mux_items.specs.Items.{Item}
use Rattle.mux_items.specs.Due.{sent, got}
use Rattle.mux_items.specs.Applying.{Allowed}
use Rattle.mux_items.proofs.Newer.{sent-newer, got-newer, allowed_older}
use Rattle.mux_run.specs.Run.{RunSide, World, Terms, terms_at_a, terms_at_b, stopped, side_after, side_of, happens_at, start, run}
use Rattle.mux_run.specs.Between.{ahead, Between}
use Rattle.mux_run.specs.Moments.{IsMoment, IsMomentOf}
use Rattle.mux_run.specs.Linked.{Joined}
use Rattle.mux_run.specs.Spending.{RunStep, Makes, Spends, comes, run_through, IsMomentThrough}
use Rattle.mux_run.specs.declared.steps.Side.{Side}
use Rattle.mux_run.specs.declared.steps.Side.TheVariants.{A, B}
use Rattle.mux_run.specs.declared.steps.Step.{Step}
use Rattle.mux_run.proofs.Between.{ahead_into, went_more, turned_between}
use Rattle.mux_run.proofs.Links.{joined_between, turned_joined, happens_joined, spent_joined, through_joined, through_made, come_from-push}

-- between an end's older and newer items, both of which are together with the other end
pub moment_between : (v : Version) (x y after items : List Item) → Between v x y → Between v after y → IsMoment x after items → Between v items y
moment_between v x y after items b b_after m =
    let came = got-newer m.later items in
    let went = sent-newer v m.since x in
    let flips : map flip (got after) ≡ map flip (got items) ++ map flip came.0 = ap (λ xs. map flip (got xs)) m.more ∙ (ap (map flip) came.1 ∙ map-append flip (got items) came.0) in
    let into : sent v y ≡ map flip (got items) ++ (map flip came.0 ++ ahead v after y) = b_after.into ∙ (ap (λ fs. fs ++ ahead v after y) flips ∙ append_assoc (map flip (got items)) (map flip came.0) (ahead v after y)) in
    let back : sent v items ≡ map flip (got y) ++ (ahead v y x ++ went.0) = went_more v y x items went.0 b.back (ap (sent v) m.is ∙ went.1) in
    record {
      into = ahead_into v items y (map flip came.0 ++ ahead v after y) into;
      back = ahead_into v y items (ahead v y x ++ went.0) back;
      allowed = allowed_older v m.later items (subst (Allowed v) m.more b_after.allowed);
      allowed_peer = b.allowed_peer;
    }

no_more : (later since items : List Item) → items ≡ later ++ (since ++ items) → since ≡ []
no_more later [] items e = refl
no_more later (item ∷ since) items e = absurd (omega (arith, ap length e, length-append later ((item ∷ since) ++ items), length-append since items))

-- where nothing is added, there is one moment
pub one_moment : (items moment : List Item) → IsMoment items items moment → moment ≡ items
one_moment items moment m = m.is ∙ ap (λ xs. xs ++ items) (no_more m.later m.since items (m.more ∙ ap (λ xs. m.later ++ xs) m.is))

-- a step changes one side

step_between : (v : Version) (x y after items moment : List Item) → Between v x y → Between v after y → IsMoment x after items → IsMoment y y moment → Between v items moment
step_between v x y after items moment b b_after m n = subst (Between v items) (sym (one_moment y moment n)) (moment_between v x y after items b b_after m)

between_a : (terms : Terms) (w : World) (after : RunSide) (x y : List Item) → Joined (terms_at_a terms) w.a w.b → Joined (terms_at_a terms) after w.b → IsMoment w.a.items after.items x → IsMoment w.b.items w.b.items y → Between terms.version x y
between_a terms w after x y j j_after m n =
    step_between terms.version w.a.items w.b.items after.items x y (joined_between (terms_at_a terms) w.a w.b j) (joined_between (terms_at_a terms) after w.b j_after) m n

between_b : (terms : Terms) (w : World) (after : RunSide) (x y : List Item) → Joined (terms_at_a terms) w.a w.b → Joined (terms_at_a terms) w.a after → IsMoment w.a.items w.a.items x → IsMoment w.b.items after.items y → Between terms.version x y
between_b terms w after x y j j_after m n =
    turned_between terms.version y x
    (step_between terms.version w.b.items w.a.items after.items y x (joined_between (terms_at_b terms) w.b w.a (turned_joined (terms_at_a terms) w.a w.b j)) (joined_between (terms_at_b terms) after w.a (turned_joined (terms_at_a terms) w.a after j_after)) n m)

happens_between : (terms : Terms) (s : Step) (side : Side) (w : World) (x y : List Item) → Joined (terms_at_a terms) w.a w.b → IsMoment w.a.items (happens_at terms side s w).a.items x → IsMoment w.b.items (happens_at terms side s w).b.items y → Between terms.version x y
happens_between terms s A w x y j m n = between_a terms w (side_after (terms_at_a terms) s w.a w.b) x y j (happens_joined terms s A w j) m n
happens_between terms s B w x y j m n = between_b terms w (side_after (terms_at_b terms) s w.b w.a) x y j (happens_joined terms s B w j) m n

comes_between : (terms : Terms) (s : RunStep) (w : World) (x y : List Item) → Joined (terms_at_a terms) w.a w.b → IsMoment w.a.items (comes terms s w).a.items x → IsMoment w.b.items (comes terms s w).b.items y → Between terms.version x y
comes_between terms (Makes s) w x y j m n = happens_between terms s (side_of s) w x y j m n
comes_between terms (Spends A) w x y j m n = between_a terms w (stopped cause.Spent w.a) x y j (spent_joined terms A w j) m n
comes_between terms (Spends B) w x y j m n = between_b terms w (stopped cause.Spent w.b) x y j (spent_joined terms B w j) m n

-- the steps before a moment, and one more where there is one

take_one_more : {A : Type 0} (n : ℕ) (xs : List A) → ((x : A) × (take (n + 1) xs ≡ take n xs ++ x ∷ [])) ⊎ (take (n + 1) xs ≡ take n xs)
take_one_more n xs = elim (by n xs) [
  | inl next ↦ inl (next.0, ap (λ k. take k xs) (add-one n) ∙ next.1)
  | inr none ↦ inr (ap (λ k. take k xs) (add-one n) ∙ none)
]
  where
    by : {A : Type 0} (n : ℕ) (xs : List A) → ((x : A) × (take (suc n) xs ≡ take n xs ++ x ∷ [])) ⊎ (take (suc n) xs ≡ take n xs)
    by zero [] = inr refl
    by zero (x ∷ xs) = inl (x, refl)
    by (suc n) [] = inr refl
    by (suc n) (x ∷ xs) = elim (by n xs) [
      | inl next ↦ inl (next.0, ap (λ ys. x ∷ ys) next.1)
      | inr none ↦ inr (ap (λ ys. x ∷ ys) none)
    ]

pub through_between : (terms : Terms) (steps : List RunStep) (a b : List Item) → IsMomentThrough terms steps a b → Between terms.version a b
through_between terms steps a b m =
    let before = run_through terms (take m.made steps) in
    let joined = through_joined terms (take m.made steps) in
    elim (take_one_more m.made steps) [
      | inl next ↦
          let now : run_through terms (take (m.made + 1) steps) ≡ comes terms next.0 before = ap (run_through terms) next.1 ∙ come_from-push terms start (take m.made steps) next.0 in
          comes_between terms next.0 before a b joined (subst (λ w. IsMoment before.a.items w.a.items a) now m.at_a) (subst (λ w. IsMoment before.b.items w.b.items b) now m.at_b)
      | inr none ↦
          let same : run_through terms (take (m.made + 1) steps) ≡ before = ap (run_through terms) none in
          let at_a = one_moment before.a.items a (subst (λ w. IsMoment before.a.items w.a.items a) same m.at_a) in
          let at_b = one_moment before.b.items b (subst (λ w. IsMoment before.b.items w.b.items b) same m.at_b) in
          subst (λ x. Between terms.version x b) (sym at_a) (subst (λ y. Between terms.version before.a.items y) (sym at_b) (joined_between (terms_at_a terms) before.a before.b joined))
    ]

-- a run in which neither side is spent

pub made_through : (terms : Terms) (steps : List Step) (made : ℕ) → run terms (take made steps) ≡ run_through terms (take made (map Makes steps))
made_through terms steps made = sym (ap (run_through terms) (take-map Makes made steps) ∙ through_made terms (take made steps))

pub moment_through : (terms : Terms) (steps : List Step) (a b : List Item) → IsMomentOf terms steps a b → IsMomentThrough terms (map Makes steps) a b
moment_through terms steps a b m =
    let older = made_through terms steps m.made in
    let newer = made_through terms steps (m.made + 1) in
    record {
      made = m.made;
      at_a = subst (λ w. IsMoment w.a.items (run_through terms (take (m.made + 1) (map Makes steps))).a.items a) older (subst (λ w. IsMoment (run terms (take m.made steps)).a.items w.a.items a) newer m.at_a);
      at_b = subst (λ w. IsMoment w.b.items (run_through terms (take (m.made + 1) (map Makes steps))).b.items b) older (subst (λ w. IsMoment (run terms (take m.made steps)).b.items w.b.items b) newer m.at_b);
    }

pub moments_between : (terms : Terms) (steps : List Step) (a b : List Item) → IsMomentOf terms steps a b → Between terms.version a b
moments_between terms steps a b m = through_between terms (map Makes steps) a b (moment_through terms steps a b m)
