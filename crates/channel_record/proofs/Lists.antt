-- Elements of lists, and what an option of one is.
use Rattle.std.proofs.Common.{◌≡◌, ℕ, ◌+◌, ◌<◌, ◌≤◌, Bool, false, List, [], ◌∷◌, ◌++◌, length, get_or, map, take, Option, Some, None, arith, refl, ap, sym, ◌∙◌, subst, nat_lt, Vec, Bor}
use Rattle.std.specs.Prelude.{slice_get, is_some, IfSome, IsSome, IsTrue, ◌↔◌}
use Rattle.std.specs.Option.{option_copied, option_map}
use Rattle.std.specs.declared.alloc.Global.{Global}
use Rattle.std.specs.List.{All}
use Rattle.std.proofs.lemmas.List.{map_more, take_all}
use Rattle.std.proofs.lemmas.List.Elements.{All-more}
use Rattle.std.proofs.lemmas.Bool.Decides.{nat_tests}
use Rattle.std.proofs.lemmas.Option.{slice_get-map, slice_get_past, slice_get_read}
use Rattle.channel_record.specs.Shares.{lists_of}

-- ---- one element more of a list

-- the values of the first ones, and then its value
pub map_at : {X Y : Type 0} (f : X → Y) (xs : List X) (i : ℕ) (x : X) (ys : List Y) (y : Y) → i < length xs
    → x ≡ get_or xs i x
    → ys ≡ map f (take i xs) → y ≡ f x → ys ++ y ∷ [] ≡ map f (take (i + 1) xs)
map_at {X} {Y} f xs i x ys y low is front same =
    ap (λ (zs : List Y). zs ++ y ∷ []) front ∙ ap (λ z. map f (take i xs) ++ z ∷ []) (same ∙ ap f is)
    ∙ sym (map_more f xs i x low)

pub all_at : {X : Type 0} (P : X → Type 0) (xs : List X) (i : ℕ) (x : X) → i < length xs → x ≡ get_or xs i x
    → All P (take i xs) → P x → All P (take (i + 1) xs)
all_at P xs i x low is all p = All-more P xs i x low all (subst P is p)

-- all elements are taken
pub all_taken : {X : Type 0} (P : X → Type 0) (xs : List X) (i : ℕ) → length xs ≤ i → All P (take i xs) → All P xs
all_taken {X} P xs i past all = subst (λ (ys : List X). All P ys) (take_all i xs past) all

-- ---- options

-- the place in a list of lists
pub get_list : (lists : List (Vec ℕ Global)) (i : ℕ)
    → slice_get (lists_of lists) i ≡ option_map (λ list. list.items) (slice_get lists i)
get_list lists i = slice_get-map (λ list. list.items) lists i

-- a maker that isn't spent gives one
pub is_left : (next : Option ℕ) (spent : Bool) → (IsTrue spent ↔ (next ≡ None)) → spent ≡ false → IsSome next
is_left (Some number) spent is unspent = refl
is_left None spent is unspent = let yes = is.1 refl in cc

-- what lies at a place
pub copied_at : {X : Type 0} (xs : List X) (i : ℕ) (found : Option (Bor X)) → is_some found ≡ nat_lt i (length xs)
    → IfSome found (λ item. item.now ≡ get_or xs i item.now) → option_copied found ≡ slice_get xs i
copied_at xs i None within item = sym (slice_get_past xs i (grind (arith, nat_tests)))
copied_at xs i (Some found) within item =
    sym (slice_get_read xs (length xs) i found.now refl (grind (arith, nat_tests)) item)
