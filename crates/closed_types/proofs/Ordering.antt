-- A call is put in text order among the calls that came before it: those that stand after it in the text are passed,
-- from the end.
use Rattle.std.proofs.Common.{◌≡◌, ℕ, suc, ◌+◌, ◌<◌, ◌≤◌, List, [], ◌∷◌, ◌++◌, length, map, drop, take, get_or, reverse, ap, sym, ◌∙◌, arith, if◌then◌else◌, append_assoc}
use Rattle.std.proofs.Math.Seq.{take-suc}
use Rattle.std.proofs.lemmas.Bool.{lt-ltb, le-ltb}
use Rattle.std.proofs.lemmas.List.{reverse-append, map-append}
use Rattle.fip_base.specs.fip_language.Core.{Written}
use Rattle.closed_types.specs.declared.mentions.CallSite.{CallSite}
use Rattle.closed_types.specs.Instances.{place_of, put_in_order}
use Rattle.closed_types.specs.MentionsView.{use_of}
use Rattle.closed_types.proofs.Lists.{drop_item}

-- the uses of these, the last first
abbrev pub backwards : List CallSite → List Written
backwards xs = reverse (map use_of xs)

backwards_last : (xs : List CallSite) (i : ℕ) (x : CallSite) → i < length xs → x ≡ get_or xs i x → backwards (take (i + 1) xs) ≡ use_of x ∷ backwards (take i xs)
backwards_last xs i x l e =
    ap (λ n. backwards (take n xs)) (let f : i + 1 ≡ suc i = omega arith in f)
    ∙ ap backwards (take-suc xs i x l ∙ ap (λ (y : CallSite). take i xs ++ y ∷ []) (sym e))
    ∙ ap reverse (map-append use_of (take i xs) (x ∷ []))
    ∙ reverse-append (map use_of (take i xs)) (use_of x ∷ [])

backwards_first : (xs : List CallSite) (i : ℕ) (x : CallSite) → i < length xs → x ≡ get_or xs i x → backwards (drop i xs) ≡ backwards (drop (i + 1) xs) ++ use_of x ∷ []
backwards_first xs i x l e =
    ap backwards (drop_item xs i x l e)
    ∙ reverse-append (use_of x ∷ []) (map use_of (drop (i + 1) xs))

-- one is passed
pub passed_one : (u : Written) (xs : List CallSite) (i : ℕ) (x : CallSite) → i < length xs → x ≡ get_or xs i x → (place_of u).at < x.place.at → backwards (drop (i + 1) xs) ++ put_in_order u (backwards (take (i + 1) xs)) ≡ backwards (drop i xs) ++ put_in_order u (backwards (take i xs))
passed_one u xs i x l e h =
    ap (λ (ys : List Written). backwards (drop (i + 1) xs) ++ put_in_order u ys) (backwards_last xs i x l e)
    ∙ ap (λ b. backwards (drop (i + 1) xs) ++ (if b then use_of x ∷ put_in_order u (backwards (take i xs)) else u ∷ use_of x ∷ backwards (take i xs))) (lt-ltb (place_of u).at x.place.at h)
    ∙ sym (append_assoc (backwards (drop (i + 1) xs)) (use_of x ∷ []) (put_in_order u (backwards (take i xs))))
    ∙ ap (λ (ys : List Written). ys ++ put_in_order u (backwards (take i xs))) (sym (backwards_first xs i x l e))

-- one is not, and the call stands after it
pub passed_last : (u : Written) (xs : List CallSite) (i : ℕ) (x : CallSite) → i < length xs → x ≡ get_or xs i x → x.place.at ≤ (place_of u).at → put_in_order u (backwards (take (i + 1) xs)) ≡ u ∷ backwards (take (i + 1) xs)
passed_last u xs i x l e h =
    ap (put_in_order u) (backwards_last xs i x l e)
    ∙ ap (λ b. if b then use_of x ∷ put_in_order u (backwards (take i xs)) else u ∷ use_of x ∷ backwards (take i xs)) (le-ltb (place_of u).at x.place.at h)
    ∙ ap (λ ys. u ∷ ys) (sym (backwards_last xs i x l e))
