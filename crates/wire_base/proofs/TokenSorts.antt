-- A kind that begins no token of a sort says nothing of that sort.
use Rattle.std.proofs.Common.{subst, Option, None, ◌≡◌, ℕ, ◌+◌, Bool, true, false, cond, ltb, List, length, take, refl, sym}
use Rattle.std.specs.Prelude.{pos}
use Rattle.std.specs.Int.{Width, byte_len, from_be_bytes, cast_signed}
use Rattle.wire_base.specs.declared.token.TokenHead.{TokenHead}
use Rattle.wire_base.specs.declared.token.TokenHead.TheVariants as token
use Rattle.wire_base.specs.declared.token.HeadStep.TheVariants.{Got, Short}
use Rattle.wire_base.specs.Head.{Kind, whole_head, unsigned, signed, str, bin, array, map, refused, numbered, read_kind}
use Rattle.wire_base.specs.Tokens.{Sort, is_number, is_str, is_bin, is_array, number_in, str_in, bin_in, array_in, a_number, a_str, a_bin, an_array}

said_of : {A : Type 0} (says : TokenHead → Option A) (b : Bool) (g h : TokenHead) (m n : ℕ) → says g ≡ None → cond b Short (Got g m) ≡ Got h n → says h ≡ None
said_of says true g h m n none e = absurd cc
said_of says false g h m n none e = let same : g ≡ h = cc in subst (λ x. says x ≡ None) same none

numbered-said : {A : Type 0} (says : TokenHead → Option A) (w : Width) (f : ℕ → TokenHead) (rest : List ℕ) (h : TokenHead) (n : ℕ) → ((m : ℕ) → says (f m) ≡ None) → numbered w f rest ≡ Got h n → says h ≡ None
numbered-said says w f rest h n none e = said_of says (ltb (length rest) (byte_len w)) (f (from_be_bytes w (take (byte_len w) rest))) h (byte_len w + 1) n (none (from_be_bytes w (take (byte_len w) rest))) e

-- a kind that is none of a sort begins no token of it
pub record IsSort {A : Type 0} (sort : Sort A) : Type 0 where
  pub others : (k : Kind) (rest : List ℕ) (h : TokenHead) (n : ℕ) → sort.begins k ≡ false → read_kind k rest ≡ Got h n → sort.says h ≡ None

whole_said : {A : Type 0} (says : TokenHead → Option A) (g h : TokenHead) (m n : ℕ) → says g ≡ None → Got g m ≡ Got h n → says h ≡ None
whole_said says g h m n none e = said_of says false g h m n none e

number-others : (k : Kind) (rest : List ℕ) (h : TokenHead) (n : ℕ) → is_number k ≡ false → read_kind k rest ≡ Got h n → number_in h ≡ None
number-others (whole_head token.Nil) rest h n other e = whole_said number_in token.Nil h 1 n refl e
number-others (whole_head (token.Flag v)) rest h n other e = whole_said number_in (token.Flag v) h 1 n refl e
number-others (whole_head (token.Whole z)) rest h n other e = absurd cc
number-others (whole_head (token.Str m)) rest h n other e = whole_said number_in (token.Str m) h 1 n refl e
number-others (whole_head (token.Bin m)) rest h n other e = whole_said number_in (token.Bin m) h 1 n refl e
number-others (whole_head (token.Array m)) rest h n other e = whole_said number_in (token.Array m) h 1 n refl e
number-others (whole_head (token.Map m)) rest h n other e = whole_said number_in (token.Map m) h 1 n refl e
number-others (unsigned w) rest h n other e = absurd cc
number-others (signed w) rest h n other e = absurd cc
number-others (str w) rest h n other e = numbered-said number_in w (λ x. token.Str x) rest h n (λ m. refl) e
number-others (bin w) rest h n other e = numbered-said number_in w (λ x. token.Bin x) rest h n (λ m. refl) e
number-others (array w) rest h n other e = numbered-said number_in w (λ x. token.Array x) rest h n (λ m. refl) e
number-others (map w) rest h n other e = numbered-said number_in w (λ x. token.Map x) rest h n (λ m. refl) e
number-others (refused r) rest h n other e = absurd cc

bin-others : (k : Kind) (rest : List ℕ) (h : TokenHead) (n : ℕ) → is_bin k ≡ false → read_kind k rest ≡ Got h n → bin_in h ≡ None
bin-others (whole_head token.Nil) rest h n other e = whole_said bin_in token.Nil h 1 n refl e
bin-others (whole_head (token.Flag v)) rest h n other e = whole_said bin_in (token.Flag v) h 1 n refl e
bin-others (whole_head (token.Whole z)) rest h n other e = whole_said bin_in (token.Whole z) h 1 n refl e
bin-others (whole_head (token.Str m)) rest h n other e = whole_said bin_in (token.Str m) h 1 n refl e
bin-others (whole_head (token.Bin m)) rest h n other e = absurd cc
bin-others (whole_head (token.Array m)) rest h n other e = whole_said bin_in (token.Array m) h 1 n refl e
bin-others (whole_head (token.Map m)) rest h n other e = whole_said bin_in (token.Map m) h 1 n refl e
bin-others (unsigned w) rest h n other e = numbered-said bin_in w (λ x. token.Whole (pos x)) rest h n (λ m. refl) e
bin-others (signed w) rest h n other e = numbered-said bin_in w (λ x. token.Whole (cast_signed w x)) rest h n (λ m. refl) e
bin-others (str w) rest h n other e = numbered-said bin_in w (λ x. token.Str x) rest h n (λ m. refl) e
bin-others (bin w) rest h n other e = absurd cc
bin-others (array w) rest h n other e = numbered-said bin_in w (λ x. token.Array x) rest h n (λ m. refl) e
bin-others (map w) rest h n other e = numbered-said bin_in w (λ x. token.Map x) rest h n (λ m. refl) e
bin-others (refused r) rest h n other e = absurd cc

str-others : (k : Kind) (rest : List ℕ) (h : TokenHead) (n : ℕ) → is_str k ≡ false → read_kind k rest ≡ Got h n → str_in h ≡ None
str-others (whole_head token.Nil) rest h n other e = whole_said str_in token.Nil h 1 n refl e
str-others (whole_head (token.Flag v)) rest h n other e = whole_said str_in (token.Flag v) h 1 n refl e
str-others (whole_head (token.Whole z)) rest h n other e = whole_said str_in (token.Whole z) h 1 n refl e
str-others (whole_head (token.Str m)) rest h n other e = absurd cc
str-others (whole_head (token.Bin m)) rest h n other e = whole_said str_in (token.Bin m) h 1 n refl e
str-others (whole_head (token.Array m)) rest h n other e = whole_said str_in (token.Array m) h 1 n refl e
str-others (whole_head (token.Map m)) rest h n other e = whole_said str_in (token.Map m) h 1 n refl e
str-others (unsigned w) rest h n other e = numbered-said str_in w (λ x. token.Whole (pos x)) rest h n (λ m. refl) e
str-others (signed w) rest h n other e = numbered-said str_in w (λ x. token.Whole (cast_signed w x)) rest h n (λ m. refl) e
str-others (str w) rest h n other e = absurd cc
str-others (bin w) rest h n other e = numbered-said str_in w (λ x. token.Bin x) rest h n (λ m. refl) e
str-others (array w) rest h n other e = numbered-said str_in w (λ x. token.Array x) rest h n (λ m. refl) e
str-others (map w) rest h n other e = numbered-said str_in w (λ x. token.Map x) rest h n (λ m. refl) e
str-others (refused r) rest h n other e = absurd cc

array-others : (k : Kind) (rest : List ℕ) (h : TokenHead) (n : ℕ) → is_array k ≡ false → read_kind k rest ≡ Got h n → array_in h ≡ None
array-others (whole_head token.Nil) rest h n other e = whole_said array_in token.Nil h 1 n refl e
array-others (whole_head (token.Flag v)) rest h n other e = whole_said array_in (token.Flag v) h 1 n refl e
array-others (whole_head (token.Whole z)) rest h n other e = whole_said array_in (token.Whole z) h 1 n refl e
array-others (whole_head (token.Str m)) rest h n other e = whole_said array_in (token.Str m) h 1 n refl e
array-others (whole_head (token.Bin m)) rest h n other e = whole_said array_in (token.Bin m) h 1 n refl e
array-others (whole_head (token.Array m)) rest h n other e = absurd cc
array-others (whole_head (token.Map m)) rest h n other e = whole_said array_in (token.Map m) h 1 n refl e
array-others (unsigned w) rest h n other e = numbered-said array_in w (λ x. token.Whole (pos x)) rest h n (λ m. refl) e
array-others (signed w) rest h n other e = numbered-said array_in w (λ x. token.Whole (cast_signed w x)) rest h n (λ m. refl) e
array-others (str w) rest h n other e = numbered-said array_in w (λ x. token.Str x) rest h n (λ m. refl) e
array-others (bin w) rest h n other e = numbered-said array_in w (λ x. token.Bin x) rest h n (λ m. refl) e
array-others (array w) rest h n other e = absurd cc
array-others (map w) rest h n other e = numbered-said array_in w (λ x. token.Map x) rest h n (λ m. refl) e
array-others (refused r) rest h n other e = absurd cc

pub is_sort-number : IsSort a_number
is_sort-number = record { others = number-others }

pub is_sort-bin : IsSort a_bin
is_sort-bin = record { others = bin-others }

pub is_sort-array : IsSort an_array
is_sort-array = record { others = array-others }

pub is_sort-str : IsSort a_str
is_sort-str = record { others = str-others }

-- ---- what begins as a token of a sort is one

said : (b : Bool) (g h : TokenHead) (m n : ℕ) → cond b Short (Got g m) ≡ Got h n → g ≡ h
said true g h m n e = absurd cc
said false g h m n e = cc

numbered_is : (w : Width) (f : ℕ → TokenHead) (rest : List ℕ) (h : TokenHead) (n : ℕ) → numbered w f rest ≡ Got h n → f (from_be_bytes w (take (byte_len w) rest)) ≡ h
numbered_is w f rest h n e = said (ltb (length rest) (byte_len w)) (f (from_be_bytes w (take (byte_len w) rest))) h (byte_len w + 1) n e

pub number-own : (k : Kind) (rest : List ℕ) (h : TokenHead) (n : ℕ) → is_number k ≡ true → read_kind k rest ≡ Got h n → number_in h ≡ None → ⊥
number-own (whole_head (token.Whole z)) rest h n own e none = let same : token.Whole z ≡ h = said false (token.Whole z) h 1 n e in let got : number_in (token.Whole z) ≡ None = subst (λ x. number_in x ≡ None) (sym same) none in cc
number-own (unsigned w) rest h n own e none = let same = numbered_is w (λ x. token.Whole (pos x)) rest h n e in let got : number_in (token.Whole (pos (from_be_bytes w (take (byte_len w) rest)))) ≡ None = subst (λ x. number_in x ≡ None) (sym same) none in cc
number-own (signed w) rest h n own e none = let same = numbered_is w (λ x. token.Whole (cast_signed w x)) rest h n e in let got : number_in (token.Whole (cast_signed w (from_be_bytes w (take (byte_len w) rest)))) ≡ None = subst (λ x. number_in x ≡ None) (sym same) none in cc
number-own (whole_head token.Nil) rest h n own e none = cc
number-own (whole_head (token.Flag v)) rest h n own e none = cc
number-own (whole_head (token.Str m)) rest h n own e none = cc
number-own (whole_head (token.Bin m)) rest h n own e none = cc
number-own (whole_head (token.Array m)) rest h n own e none = cc
number-own (whole_head (token.Map m)) rest h n own e none = cc
number-own (str w) rest h n own e none = cc
number-own (bin w) rest h n own e none = cc
number-own (array w) rest h n own e none = cc
number-own (map w) rest h n own e none = cc
number-own (refused r) rest h n own e none = cc

pub bin-own : (k : Kind) (rest : List ℕ) (h : TokenHead) (n : ℕ) → is_bin k ≡ true → read_kind k rest ≡ Got h n → bin_in h ≡ None → ⊥
bin-own (whole_head (token.Bin m)) rest h n own e none = let same : token.Bin m ≡ h = said false (token.Bin m) h 1 n e in let got : bin_in (token.Bin m) ≡ None = subst (λ x. bin_in x ≡ None) (sym same) none in cc
bin-own (bin w) rest h n own e none = let same = numbered_is w (λ x. token.Bin x) rest h n e in let got : bin_in (token.Bin (from_be_bytes w (take (byte_len w) rest))) ≡ None = subst (λ x. bin_in x ≡ None) (sym same) none in cc
bin-own (whole_head token.Nil) rest h n own e none = cc
bin-own (whole_head (token.Flag v)) rest h n own e none = cc
bin-own (whole_head (token.Whole z)) rest h n own e none = cc
bin-own (whole_head (token.Str m)) rest h n own e none = cc
bin-own (whole_head (token.Array m)) rest h n own e none = cc
bin-own (whole_head (token.Map m)) rest h n own e none = cc
bin-own (unsigned w) rest h n own e none = cc
bin-own (signed w) rest h n own e none = cc
bin-own (str w) rest h n own e none = cc
bin-own (array w) rest h n own e none = cc
bin-own (map w) rest h n own e none = cc
bin-own (refused r) rest h n own e none = cc
