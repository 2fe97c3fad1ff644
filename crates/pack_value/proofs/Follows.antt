-- What is read, and where reading stops, by the rules on tokens.
use Rattle.std.proofs.Common.{◌≡◌, ℕ, zero, suc, ◌+◌, Bool, true, false, cond, ltb, nat_eq, List, [], ◌∷◌, ◌++◌, length, take, drop, Ok, Err, Option, Some, None, refl, ap, ◌∙◌, append_assoc, arith, add-zero}
use Rattle.std.specs.Str.{is_utf8}
use Rattle.std.specs.Int.{byte_len, from_be_bytes, cast_signed}
use Rattle.std.specs.Prelude.{pos}
use Rattle.std.proofs.lemmas.List.{drop-drop}
use Rattle.std.proofs.lemmas.Bool.{le-ltb}
use Rattle.wire_base.specs.Tree.{Tree, nil, flag, whole, words, bytes, items, pairs, trees_of, pairs_of}
use Rattle.wire_base.specs.declared.reason.Reason.{Reason}
use Rattle.wire_base.specs.declared.reason.Reason.TheVariants.{TooLong, TooDeep, BadUtf8, KeyNotText}
use Rattle.wire_base.specs.declared.token.TokenHead.{TokenHead}
use Rattle.wire_base.specs.declared.token.TokenHead.TheVariants as token
use Rattle.wire_base.specs.declared.token.HeadStep.{HeadStep}
use Rattle.wire_base.specs.declared.token.HeadStep.TheVariants as step
use Rattle.wire_base.specs.Head.{Kind, whole_head, unsigned, signed, str, bin, array, map, refused, kind_of, read_kind, head_of}
use Rattle.wire_base.specs.declared.reading.Fault.{Fault}
use Rattle.wire_base.specs.declared.reading.Fault.TheVariants.{Ends, Breaks}
use Rattle.pack_value.specs.Spelling.{max_len}
use Rattle.pack_value.specs.Tokens.{Want, value, key, levels, opens, place_rule, first_rule, length_rule, content_rule, times, wants_of, Next, takes, cut, breaks, or_next, next_by_content, next_by_head, next_of}
use Rattle.wire_base.specs.Rules.{body_size}
use Rattle.wire_base.specs.Tokens.{Reading, Reader, follow, ◌>>=◌, done, is_str, bytes_at}
use Rattle.pack_value.specs.Reading.{counted_of, run_at, text_at, fault_of, cut_head, key_of, key_at, repeat, pair_at, behind, at_head, too_deep, value_at}

-- ---- tokens that pass

-- So many tokens pass, from these wants and bytes to those.
abbrev pub Passes : ℕ → List Want → List ℕ → List Want → List ℕ → Type 0
Passes zero ws b vs c = (ws ≡ vs) × (b ≡ c)
Passes (suc m) [] b vs c = ⊥
Passes (suc m) (w ∷ ws) b vs c = (n : ℕ) × (more : List Want) × (next_of w b ≡ takes n more) × Passes m (more ++ ws) (drop n b) vs c

pub record Reaches (ws : List Want) (b : List ℕ) (vs : List Want) (c : List ℕ) : Type 0 where
  pub turns : ℕ
  pub passes : Passes turns ws b vs c

stays : (ws : List Want) (b : List ℕ) → Reaches ws b ws b
stays ws b = record { turns = 0; passes = (refl, refl) }

onward : (m : ℕ) (ws : List Want) (b : List ℕ) (vs : List Want) (c : List ℕ) (us : List Want) (e : List ℕ) → Passes m ws b vs c → Reaches vs c us e → Reaches ws b us e
onward zero ws b vs c us e p r = rw (p.0, p.1) r
onward (suc m) [] b vs c us e p r = absurd p
onward (suc m) (w ∷ ws) b vs c us e p r =
    let q = onward m (p.1 ++ ws) (drop p.0 b) vs c us e p.3 r in
    record { turns = suc q.turns; passes = (p.0, p.1, p.2, q.passes) }

then_reaches : (ws : List Want) (b : List ℕ) (vs : List Want) (c : List ℕ) (us : List Want) (e : List ℕ) → Reaches ws b vs c → Reaches vs c us e → Reaches ws b us e
then_reaches ws b vs c us e p r = onward p.turns ws b vs c us e p.passes r

-- ---- what a reading says of the tokens

abbrev pub Says : Fault → Want → List ℕ → Type 0
Says Ends w c = next_of w c ≡ cut
Says (Breaks left r) w c = (next_of w c ≡ breaks r) × (length c ≡ left)

-- Tokens pass up to one that isn't whole or breaks a rule.
pub record Stopped (f : Fault) (ws : List Want) (b : List ℕ) : Type 0 where
  pub want : Want
  pub others : List Want
  pub at : List ℕ
  pub reach : Reaches ws b (want ∷ others) at
  pub says : Says f want at

abbrev pub Follows : {A : Type 0} → List Want → List ℕ → Reading A → Type 0
Follows vs b (Ok x) = (ws : List Want) → Reaches (vs ++ ws) b ws x.1
Follows vs b (Err f) = (ws : List Want) → Stopped f (vs ++ ws) b

stops : (A : Type 0) (f : Fault) (w : Want) (b : List ℕ) → Says f w b → Follows {A = A} (w ∷ []) b (Err f)
stops A f w b s = λ ws. record { want = w; others = ws; at = b; reach = stays (w ∷ ws) b; says = s }

step_further : (w : Want) (b : List ℕ) (n : ℕ) (more ws vs : List Want) (c : List ℕ) → next_of w b ≡ takes n more → Reaches (more ++ ws) (drop n b) vs c → Reaches (w ∷ ws) b vs c
step_further w b n more ws vs c e r = record { turns = suc r.turns; passes = (n, more, e, r.passes) }

passed : {A : Type 0} (r : Reading A) (w : Want) (b : List ℕ) (n : ℕ) (more : List Want) → next_of w b ≡ takes n more → Follows more (drop n b) r → Follows (w ∷ []) b r
passed (Ok x) w b n more e f = λ ws. step_further w b n more ws ws x.1 e (f ws)
passed (Err d) w b n more e f = λ ws.
    let s = f ws in
    record { want = s.want; others = s.others; at = s.at; reach = step_further w b n more ws (s.want ∷ s.others) s.at e s.reach; says = s.says }

mapped : {A B : Type 0} (r : Reading A) (g : A → B) (vs : List Want) (b : List ℕ) → Follows vs b r → Follows vs b (follow r (λ x. done (g x)))
mapped (Ok x) g vs b f = f
mapped (Err d) g vs b f = f

joined : {B : Type 0} (s : Reading B) (vs us : List Want) (b c : List ℕ) → ((ws : List Want) → Reaches (vs ++ ws) b ws c) → Follows us c s → Follows (vs ++ us) b s
joined (Ok y) vs us b c p q = λ ws. rw (append_assoc vs us ws) (then_reaches (vs ++ (us ++ ws)) b (us ++ ws) c ws y.1 (p (us ++ ws)) (q ws))
joined (Err d) vs us b c p q = λ ws.
    let s = q ws in
    record { want = s.want; others = s.others; at = s.at; reach = rw (append_assoc vs us ws) (then_reaches (vs ++ (us ++ ws)) b (us ++ ws) c (s.want ∷ s.others) s.at (p (us ++ ws)) s.reach); says = s.says }

bound : {A B : Type 0} (r : Reading A) (f : A → Reader B) (vs us : List Want) (b : List ℕ) → Follows vs b r → ((x : A) (c : List ℕ) → Follows us c (f x c)) → Follows (vs ++ us) b (follow r f)
bound (Ok x) f vs us b p q = joined (f x.0 x.1) vs us b x.1 p (q x.0 x.1)
bound (Err d) f vs us b p q = λ ws. rw (append_assoc vs us ws) (p (us ++ ws))

repeated : {A : Type 0} (read : Reader A) (vs : List Want) → ((b : List ℕ) → Follows vs b (read b)) → (n : ℕ) (b : List ℕ) → Follows (times n vs) b (repeat read n b)
unfolding repeat
repeated read vs f zero b = λ ws. stays ws b
repeated read vs f (suc n) b =
    bound (read b) (λ x. repeat read n >>= λ xs. done (x ∷ xs)) vs (times n vs) b (f b)
    (λ x c. mapped (repeat read n c) (λ xs. x ∷ xs) (times n vs) c (repeated read vs f n c))

-- ---- the first byte, by the head behind it

long : (b : Bool) (g h : TokenHead) (m n : ℕ) → cond b step.Short (step.Got g m) ≡ step.Got h n → g ≡ h
long true g h m n e = absurd cc
long false g h m n e = cc

never_refused : (b : Bool) (g : TokenHead) (m : ℕ) (r : Reason) → cond b step.Short (step.Got g m) ≡ step.Refused r → ⊥
never_refused true g m r e = cc
never_refused false g m r e = cc

abbrev rule_of : Want → TokenHead → Option Reason
rule_of w h = place_rule w (opens (whole_head h)) (is_str (whole_head h))

first_by_head : (w : Want) (k : Kind) (rest : List ℕ) (h : TokenHead) (n : ℕ) → read_kind k rest ≡ step.Got h n → first_rule w k ≡ rule_of w h
first_by_head w (whole_head g) rest h n e = let same : g ≡ h = cc in ap (rule_of w) same
first_by_head w (unsigned x) rest h n e = ap (rule_of w) (long (ltb (length rest) (byte_len x)) (token.Whole (pos (from_be_bytes x (take (byte_len x) rest)))) h (byte_len x + 1) n e)
first_by_head w (signed x) rest h n e = ap (rule_of w) (long (ltb (length rest) (byte_len x)) (token.Whole (cast_signed x (from_be_bytes x (take (byte_len x) rest)))) h (byte_len x + 1) n e)
first_by_head w (str x) rest h n e = ap (rule_of w) (long (ltb (length rest) (byte_len x)) (token.Str (from_be_bytes x (take (byte_len x) rest))) h (byte_len x + 1) n e)
first_by_head w (bin x) rest h n e = ap (rule_of w) (long (ltb (length rest) (byte_len x)) (token.Bin (from_be_bytes x (take (byte_len x) rest))) h (byte_len x + 1) n e)
first_by_head w (array x) rest h n e = ap (rule_of w) (long (ltb (length rest) (byte_len x)) (token.Array (from_be_bytes x (take (byte_len x) rest))) h (byte_len x + 1) n e)
first_by_head w (map x) rest h n e = ap (rule_of w) (long (ltb (length rest) (byte_len x)) (token.Map (from_be_bytes x (take (byte_len x) rest))) h (byte_len x + 1) n e)
first_by_head w (refused r) rest h n e = absurd cc

first_if_refused : (w : Want) (k : Kind) (rest : List ℕ) (r : Reason) → read_kind k rest ≡ step.Refused r → first_rule w k ≡ Some r
first_if_refused w (whole_head g) rest r e = absurd cc
first_if_refused w (unsigned x) rest r e = absurd (never_refused (ltb (length rest) (byte_len x)) (token.Whole (pos (from_be_bytes x (take (byte_len x) rest)))) (byte_len x + 1) r e)
first_if_refused w (signed x) rest r e = absurd (never_refused (ltb (length rest) (byte_len x)) (token.Whole (cast_signed x (from_be_bytes x (take (byte_len x) rest)))) (byte_len x + 1) r e)
first_if_refused w (str x) rest r e = absurd (never_refused (ltb (length rest) (byte_len x)) (token.Str (from_be_bytes x (take (byte_len x) rest))) (byte_len x + 1) r e)
first_if_refused w (bin x) rest r e = absurd (never_refused (ltb (length rest) (byte_len x)) (token.Bin (from_be_bytes x (take (byte_len x) rest))) (byte_len x + 1) r e)
first_if_refused w (array x) rest r e = absurd (never_refused (ltb (length rest) (byte_len x)) (token.Array (from_be_bytes x (take (byte_len x) rest))) (byte_len x + 1) r e)
first_if_refused w (map x) rest r e = absurd (never_refused (ltb (length rest) (byte_len x)) (token.Map (from_be_bytes x (take (byte_len x) rest))) (byte_len x + 1) r e)
first_if_refused w (refused s) rest r e = let same : s ≡ r = cc in ap (λ x. Some x) same

first_if_short : (w : Want) (k : Kind) (rest : List ℕ) → read_kind k rest ≡ step.Short → first_rule w k ≡ place_rule w (opens k) (is_str k)
first_if_short w (whole_head g) rest e = refl
first_if_short w (unsigned x) rest e = refl
first_if_short w (signed x) rest e = refl
first_if_short w (str x) rest e = refl
first_if_short w (bin x) rest e = refl
first_if_short w (array x) rest e = refl
first_if_short w (map x) rest e = refl
first_if_short w (refused r) rest e = absurd cc

next_if_got : (w : Want) (b : List ℕ) (h : TokenHead) (n : ℕ) → head_of b ≡ step.Got h n → next_of w b ≡ or_next (rule_of w h) (or_next (length_rule h) (next_by_content w h n (drop n b)))
next_if_got w [] h n e = absurd cc
next_if_got w (x ∷ rest) h n e =
    ap (λ o. or_next o (next_by_head w (head_of (x ∷ rest)) (x ∷ rest))) (first_by_head w (kind_of x) rest h n e)
    ∙ ap (λ s. or_next (rule_of w h) (next_by_head w s (x ∷ rest))) e

next_if_refused : (w : Want) (b : List ℕ) (r : Reason) → head_of b ≡ step.Refused r → next_of w b ≡ breaks r
next_if_refused w [] r e = absurd cc
next_if_refused w (x ∷ rest) r e = ap (λ o. or_next o (next_by_head w (head_of (x ∷ rest)) (x ∷ rest))) (first_if_refused w (kind_of x) rest r e)

says_rule : (o : Option Reason) (w : Want) (b : List ℕ) → next_of w b ≡ or_next o cut → Says (fault_of o (length b)) w b
says_rule (Some r) w b e = (e, refl)
says_rule None w b e = e

next_if_short : (w : Want) (b : List ℕ) → head_of b ≡ step.Short → Says (cut_head w b) w b
unfolding cut_head
next_if_short w [] e = refl
next_if_short w (x ∷ rest) e =
    says_rule (place_rule w (opens (kind_of x)) (is_str (kind_of x))) w (x ∷ rest)
    (ap (λ o. or_next o (next_by_head w (head_of (x ∷ rest)) (x ∷ rest))) (first_if_short w (kind_of x) rest e)
    ∙ ap (λ s. or_next (place_rule w (opens (kind_of x)) (is_str (kind_of x))) (next_by_head w s (x ∷ rest))) e)

-- ---- runs and texts

counts : {A : Type 0} (t : Bool) (w : Want) (b : List ℕ) (r : Reading A) (then_next : Next)
    → next_of w b ≡ or_next (cond t (Some TooLong) None) then_next → (next_of w b ≡ then_next → Follows (w ∷ []) b r)
    → Follows (w ∷ []) b (cond t (Err (Breaks (length b) TooLong)) r)
counts {A} true w b r then_next e f = stops A (Breaks (length b) TooLong) w b (e, refl)
counts false w b r then_next e f = f e

whole_run : {A : Type 0} (t s : Bool) (w : Want) (b : List ℕ) (x : List ℕ × List ℕ) (f : List ℕ → Reader A) (then_next : Next)
    → next_of w b ≡ or_next (cond t (Some TooLong) None) (cond s cut then_next) → (next_of w b ≡ then_next → Follows (w ∷ []) b (f x.0 x.1))
    → Follows (w ∷ []) b (follow (cond t (Err (Breaks (length b) TooLong)) (cond s (Err Ends) (Ok x))) f)
whole_run {A} true s w b x f then_next e g = stops A (Breaks (length b) TooLong) w b (e, refl)
whole_run {A} false true w b x f then_next e g = stops A Ends w b e
whole_run false false w b x f then_next e g = g e

valid : (u : Bool) (w : Want) (b : List ℕ) (x : List ℕ × List ℕ) (n : ℕ) → next_of w b ≡ or_next (cond u None (Some BadUtf8)) (takes n []) → x.1 ≡ drop n b
    → Follows {A = List ℕ} (w ∷ []) b (cond u (Ok x) (Err (Breaks (length b) BadUtf8)))
valid true w b x n e d = passed (Ok x) w b n [] e (λ ws. rw d (stays ws (drop n b)))
valid false w b x n e d = stops (List ℕ) (Breaks (length b) BadUtf8) w b (e, refl)

follows_text : (w : Want) (b : List ℕ) (len n : ℕ) → next_of w b ≡ or_next (length_rule (token.Str len)) (next_by_content w (token.Str len) n (drop n b))
    → Follows (w ∷ []) b (text_at (length b) len (drop n b))
unfolding text_at run_at bytes_at
follows_text w b len n e =
    let rest = drop n b in
    whole_run (ltb max_len len) (ltb (length rest) len) w b (take len rest, drop len rest) (λ s after. cond (is_utf8 s) (Ok (s, after)) (Err (Breaks (length b) BadUtf8))) (or_next (content_rule (token.Str len) (take len rest)) (takes (n + len) [])) e
    (λ f. valid (is_utf8 (take len rest)) w b (take len rest, drop len rest) (n + len) f (drop-drop len n b))

follows_run : (w : Want) (b : List ℕ) (len n : ℕ) → next_of w b ≡ or_next (length_rule (token.Bin len)) (next_by_content w (token.Bin len) n (drop n b))
    → Follows (w ∷ []) b (follow (run_at (length b) len (drop n b)) (λ s. done (bytes s)))
unfolding run_at bytes_at
follows_run w b len n e =
    let rest = drop n b in
    whole_run (ltb max_len len) (ltb (length rest) len) w b (take len rest, drop len rest) (λ s. done (bytes s)) (takes (n + len) []) e
    (λ f. passed (Ok (bytes (take len rest), drop len rest)) w b (n + len) [] f (λ ws. rw (drop-drop len n b) (stays ws (drop (n + len) b))))

-- ---- values

no_body : (w : Want) (h : TokenHead) (n : ℕ) (rest : List ℕ) → body_size h ≡ 0 → content_rule h (take (body_size h) rest) ≡ None → next_by_content w h n rest ≡ takes n (wants_of (levels w) h)
no_body w h n rest e f = rw (f, e, le-ltb (length rest) 0 (omega arith), add-zero n) refl

next_if_alone : (w : Want) (b : List ℕ) (h : TokenHead) (n : ℕ) → head_of b ≡ step.Got h n → body_size h ≡ 0 → content_rule h (take (body_size h) (drop n b)) ≡ None
    → next_of w b ≡ or_next (rule_of w h) (or_next (length_rule h) (takes n (wants_of (levels w) h)))
next_if_alone w b h n e f g = next_if_got w b h n e ∙ ap (λ x. or_next (rule_of w h) (or_next (length_rule h) x)) (no_body w h n (drop n b) f g)

scalar : (w : Want) (b : List ℕ) (n : ℕ) (t : Tree) → next_of w b ≡ takes n [] → Follows (w ∷ []) b (Ok (t, drop n b))
scalar w b n t e = passed (Ok (t, drop n b)) w b n [] e (λ ws. stays ws (drop n b))

module _ (d : ℕ) (is : ℕ → ℕ → Reader (List Tree)) (ps : ℕ → ℕ → Reader (List (List ℕ × Tree)))
    (follows_items : (b : List ℕ) (n len : ℕ) → next_of (value d) b ≡ or_next (rule_of (value d) (token.Array len)) (or_next (length_rule (token.Array len)) (takes n (wants_of d (token.Array len)))) → Follows (value d ∷ []) b (is (length b) len (drop n b)))
    (follows_pairs : (b : List ℕ) (n len : ℕ) → next_of (value d) b ≡ or_next (rule_of (value d) (token.Map len)) (or_next (length_rule (token.Map len)) (takes n (wants_of d (token.Map len)))) → Follows (value d ∷ []) b (ps (length b) len (drop n b))) where
  follows_head : (s : HeadStep) (b : List ℕ) → head_of b ≡ s → Follows (value d ∷ []) b (at_head d (is (length b)) (ps (length b)) s b)
  unfolding behind
  follows_head step.Short b e = stops Tree (cut_head (value d) b) (value d) b (next_if_short (value d) b e)
  follows_head (step.Refused r) b e = stops Tree (Breaks (length b) r) (value d) b (next_if_refused (value d) b r e, refl)
  follows_head (step.Got token.Nil n) b e = scalar (value d) b n nil (next_if_alone (value d) b token.Nil n e refl refl)
  follows_head (step.Got (token.Flag v) n) b e = scalar (value d) b n (flag v) (next_if_alone (value d) b (token.Flag v) n e refl refl)
  follows_head (step.Got (token.Whole z) n) b e = scalar (value d) b n (whole z) (next_if_alone (value d) b (token.Whole z) n e refl refl)
  follows_head (step.Got (token.Str len) n) b e =
      mapped (text_at (length b) len (drop n b)) (λ x. words x) (value d ∷ []) b (follows_text (value d) b len n (next_if_got (value d) b (token.Str len) n e))
  follows_head (step.Got (token.Bin len) n) b e = follows_run (value d) b len n (next_if_got (value d) b (token.Bin len) n e)
  follows_head (step.Got (token.Array len) n) b e =
      mapped (is (length b) len (drop n b)) (λ x. items (trees_of x)) (value d ∷ []) b (follows_items b n len (next_if_alone (value d) b (token.Array len) n e refl refl))
  follows_head (step.Got (token.Map len) n) b e =
      mapped (ps (length b) len (drop n b)) (λ x. pairs (pairs_of x)) (value d ∷ []) b (follows_pairs b n len (next_if_alone (value d) b (token.Map len) n e refl refl))

-- ---- keys

nested : (u : Bool) (d : ℕ) (b : List ℕ) (then_next : Next) → next_of (key d) b ≡ or_next (cond u (Some TooDeep) (Some KeyNotText)) then_next
    → Follows {A = List ℕ} (key d ∷ []) b (Err (Breaks (length b) (cond u TooDeep KeyNotText)))
nested true d b then_next e = stops (List ℕ) (Breaks (length b) TooDeep) (key d) b (e, refl)
nested false d b then_next e = stops (List ℕ) (Breaks (length b) KeyNotText) (key d) b (e, refl)

no_text : (d : ℕ) (b : List ℕ) (h : TokenHead) (n : ℕ) → head_of b ≡ step.Got h n → rule_of (key d) h ≡ Some KeyNotText → Follows {A = List ℕ} (key d ∷ []) b (Err (Breaks (length b) KeyNotText))
no_text d b h n e r =
    stops (List ℕ) (Breaks (length b) KeyNotText) (key d) b
    (next_if_got (key d) b h n e ∙ ap (λ o. or_next o (or_next (length_rule h) (next_by_content (key d) h n (drop n b)))) r, refl)

key_follows : (d : ℕ) (s : HeadStep) (b : List ℕ) → head_of b ≡ s → Follows (key d ∷ []) b (key_of d s b)
key_follows d step.Short b e = stops (List ℕ) (cut_head (key d) b) (key d) b (next_if_short (key d) b e)
key_follows d (step.Refused r) b e = stops (List ℕ) (Breaks (length b) r) (key d) b (next_if_refused (key d) b r e, refl)
key_follows d (step.Got token.Nil n) b e = no_text d b token.Nil n e refl
key_follows d (step.Got (token.Flag v) n) b e = no_text d b (token.Flag v) n e refl
key_follows d (step.Got (token.Whole z) n) b e = no_text d b (token.Whole z) n e refl
key_follows d (step.Got (token.Str len) n) b e = follows_text (key d) b len n (next_if_got (key d) b (token.Str len) n e)
key_follows d (step.Got (token.Bin len) n) b e = no_text d b (token.Bin len) n e refl
key_follows d (step.Got (token.Array len) n) b e =
    nested (nat_eq d 0) d b (or_next (length_rule (token.Array len)) (next_by_content (key d) (token.Array len) n (drop n b))) (next_if_got (key d) b (token.Array len) n e)
key_follows d (step.Got (token.Map len) n) b e =
    nested (nat_eq d 0) d b (or_next (length_rule (token.Map len)) (next_by_content (key d) (token.Map len) n (drop n b))) (next_if_got (key d) b (token.Map len) n e)

pub follows_key : (d : ℕ) (b : List ℕ) → Follows (key d ∷ []) b (key_at d b)
unfolding key_at
follows_key d b = key_follows d (head_of b) b refl

-- ---- all of it

follows_pair : (d : ℕ) (read : Reader Tree) → ((b : List ℕ) → Follows (value d ∷ []) b (read b)) → (b : List ℕ) → Follows (key d ∷ value d ∷ []) b (pair_at d read b)
unfolding pair_at
follows_pair d read f b =
    bound (key_at d b) (λ k. read >>= λ x. done (k, x)) (key d ∷ []) (value d ∷ []) b (follows_key d b)
    (λ k c. mapped (read c) (λ t. (k, t)) (value d ∷ []) c (f c))

some_left : (d : ℕ) → nat_eq (suc d) 0 ≡ false
some_left d = grind arith

follows_many : {A : Type 0} (d : ℕ) (read : Reader A) (vs : List Want) → ((b : List ℕ) → Follows vs b (read b)) → (b : List ℕ) (n len : ℕ)
    → next_of (value (suc d)) b ≡ or_next (cond (nat_eq (suc d) 0) (Some TooDeep) None) (or_next (cond (ltb max_len len) (Some TooLong) None) (takes n (times len vs)))
    → Follows (value (suc d) ∷ []) b (counted_of (length b) read len (drop n b))
follows_many d read vs f b n len e =
    counts (ltb max_len len) (value (suc d)) b (repeat read len (drop n b)) (takes n (times len vs))
    (e ∙ ap (λ u. or_next (cond u (Some TooDeep) None) (or_next (cond (ltb max_len len) (Some TooLong) None) (takes n (times len vs)))) (some_left d))
    (λ g. passed (repeat read len (drop n b)) (value (suc d)) b n (times len vs) g (repeated read vs f len (drop n b)))

pub follows_value : (d : ℕ) (b : List ℕ) → Follows (value d ∷ []) b (value_at d b)
unfolding value_at
follows_value zero b =
    follows_head 0 too_deep too_deep
    (λ b n len e. stops (List Tree) (Breaks (length b) TooDeep) (value 0) b (e, refl))
    (λ b n len e. stops (List (List ℕ × Tree)) (Breaks (length b) TooDeep) (value 0) b (e, refl))
    (head_of b) b refl
follows_value (suc d) b =
    follows_head (suc d) (λ left. counted_of left (value_at d)) (λ left. counted_of left (pair_at d (value_at d)))
    (λ b n len e. follows_many d (value_at d) (value d ∷ []) (follows_value d) b n len e)
    (λ b n len e. follows_many d (pair_at d (value_at d)) (key d ∷ value d ∷ []) (follows_pair d (value_at d) (follows_value d)) b n len e)
    (head_of b) b refl
