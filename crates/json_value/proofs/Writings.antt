-- The crate's data of a value's normal form, item by item and pair by pair.
use Rattle.std.proofs.Common.{◌≡◌, ℕ, List, [], ◌∷◌, map, String, Global, string_bytes, string_cmp, refl, ap, ◌∙◌}
use Rattle.std.specs.declared.cmp.Ordering.{Ordering}
use Rattle.std.specs.declared.cmp.Ordering.TheVariants.{Less, Equal, Greater}
use Rattle.std.specs.Ordering.{match_ordering}
use Rattle.serde_json.specs.Data as json
use Rattle.std.specs.BTreeMap.{insert_entry}
use Rattle.serde_json.specs.View.{view, items_of, members_view}
use Rattle.serde_json.specs.declared.value.Value.{Value}
use Rattle.serde_json.proofs.Views.{Entry, members_view-insert_entry}
use Rattle.wire_base.specs.Tree.{Tree, Pairs, no_pairs, pair, trees_of, pairs_of}
use Rattle.json_value.specs.Normal.{key_cmp, put, norm, norm_items, norm_onto}
use Rattle.json_value.specs.Json.{data_of, data_items, data_members}

-- the data of the normal form
abbrev pub plain : Tree → json.Data
plain t = data_of (norm t)

-- members with these pairs put in one after another
abbrev pub put_all : json.Members → List (List ℕ × Tree) → json.Members
put_all ms [] = ms
put_all ms (p ∷ ps) = put_all (json.put p.0 (plain p.1) ms) ps

pub items_of-plain : (ts : List Tree) → items_of (map plain ts) ≡ data_items (norm_items (trees_of ts))
items_of-plain [] = refl
items_of-plain (t ∷ ts) = ap (json.item (plain t)) (items_of-plain ts)

by_order : (o : Ordering) (a b c : Pairs) → data_members (match_ordering o a b c) ≡ match_ordering o (data_members a) (data_members b) (data_members c)
by_order Less a b c = refl
by_order Equal a b c = refl
by_order Greater a b c = refl

-- a pair that is put in is a member that is put in
pub data_members-put : (k : List ℕ) (t : Tree) (ps : Pairs) → data_members (put k t ps) ≡ json.put k (data_of t) (data_members ps)
data_members-put k t no_pairs = refl
data_members-put k t (pair l u ps) = by_order (key_cmp k l) _ _ _ ∙ rw (data_members-put k t ps) refl

pub data_members-norm_onto : (found : Pairs) (ps : List (List ℕ × Tree)) → data_members (norm_onto found (pairs_of ps)) ≡ put_all (data_members found) ps
data_members-norm_onto found [] = refl
data_members-norm_onto found (p ∷ ps) = data_members-norm_onto (put p.0 (norm p.1) found) ps ∙ ap (λ ms. put_all ms ps) (data_members-put p.0 (norm p.1) found)

-- an entry that is inserted is a member that is put in
pub members_view-inserted : (old new : List Entry) (k : String Global) (v : Value) (key : List ℕ) → new ≡ insert_entry string_cmp old k v → string_bytes k ≡ key → members_view new ≡ json.put key (view v) (members_view old)
members_view-inserted old new k v key e same = rw (e, ← same) (members_view-insert_entry old k v)

pub ruleset puts = (members_view-inserted)
