-- What stays when claims are asked.
use Rattle.std.proofs.Common.{◌≡◌, ℕ, zero, suc, ◌+◌, ◌<◌, ◌≤◌, inl, inr, Bool, true, false, List, [], ◌∷◌, ◌++◌, length, slice_get, Some, refl, ap, sym, subst, ◌∙◌, arith, true≢false, length-append, if◌then◌else◌}
use Rattle.data_types.specs.Types.{Ty, Tys, Given, Parameter, Applied, NoTys, MoreTys, Declarations, Leaf, fill_all}
use Rattle.data_types.specs.Marks.{Claim, State, asked, known, bit, IsAsked, Lacks, AllLack, IsBlocked, IsSound, AllHave, Suffice, AllSuffice, marked_of, unmarked, most_claims, with_claim}
use Rattle.data_types.specs.Steps.{Extends, IsAsking, IsLooked, AreFound, AreLooked, AreTried, IsParameter, IsApplied, has_values, gathered}
use Rattle.data_types.specs.declared.found.Found.{Found}
use Rattle.data_types.proofs.Values.{gathered_have, suffice_none, suffice_more}
use Rattle.fip_language.proofs.Facts.{append_nil as append_none}

pub extends_self : (s : State) → Extends s s
extends_self s = record { kept = λ i c e. e; marks = λ i t bs e. e; todo = refl; more = omega arith; room = omega arith; same = λ e. refl }

pub extends_then : (a b c : State) → Extends a b → Extends b c → Extends a c
extends_then a b c e f =
    let m = e.more in
    let n = f.more in
    let r = e.room in
    let s = f.room in
    record {
      kept = λ i d g. f.kept i d (e.kept i d g);
      marks = λ i t bs g. e.marks i t bs (f.marks i t bs g);
      todo = f.todo ∙ e.todo;
      more = omega (arith, m, n);
      room = omega (arith, r, s);
      same = λ g. f.same (omega (arith, m, n, g)) ∙ e.same (omega (arith, m, n, g));
    }

pub extends_sound : (ds : Declarations) (a b : State) → Extends a b → IsSound ds a → IsSound ds b
extends_sound ds a b e sound i t bs g = sound i t bs (e.marks i t bs g)

pub sound_before : (ds : Declarations) (a b : State) → Extends a b → IsSound ds b → IsSound ds a
sound_before ds a b e sound i t bs g = sound i t bs (e.kept i (known t bs) g)

-- ---- a claim is asked

pub place_left : (cs : List Claim) (c d : Claim) (i : ℕ) → slice_get cs i ≡ Some c → slice_get (cs ++ d ∷ []) i ≡ Some c
place_left [] c d i e = cc
place_left (x ∷ cs) c d zero e = e
place_left (x ∷ cs) c d (suc i) e = place_left cs c d i e

known_left : (cs : List Claim) (t : ℕ) (bs : List Bool) (u : ℕ) (as' : List Bool) (i : ℕ) → slice_get (cs ++ asked u as' ∷ []) i ≡ Some (known t bs) → slice_get cs i ≡ Some (known t bs)
known_left [] t bs u as' zero e = absurd (true≢false (sym (ap marked_of e)))
known_left [] t bs u as' (suc i) e = e
known_left (x ∷ cs) t bs u as' zero e = e
known_left (x ∷ cs) t bs u as' (suc i) e = known_left cs t bs u as' i e

pub last_there : (cs : List Claim) (c : Claim) → slice_get (cs ++ c ∷ []) (length cs) ≡ Some c
last_there [] c = refl
last_there (x ∷ cs) c = last_there cs c

one_more : (cs : List Claim) (t : ℕ) (bs : List Bool) → unmarked (cs ++ asked t bs ∷ []) ≡ unmarked cs + 1
one_more [] t bs = refl
one_more (c ∷ cs) t bs = let r = one_more cs t bs in omega (arith, r)

pub extends_claim : (s : State) (t : ℕ) (bs : List Bool) → length (with_claim s t bs).claims ≤ most_claims → Extends s (with_claim s t bs)
extends_claim s t bs few =
    let n = length-append s.claims (asked t bs ∷ []) in
    let u = one_more s.claims t bs in
    record {
      kept = λ i c e. place_left s.claims c (asked t bs) i e;
      marks = λ i u cs e. known_left s.claims u cs t bs i e;
      todo = refl;
      more = omega (arith, n);
      room = omega (arith, n, u, few);
      same = λ e. absurd (omega (arith, n, e));
    }

pub asking_new : (a b : State) (t : ℕ) (bs : List Bool) → b ≡ with_claim a t bs → length b.claims ≤ most_claims → IsAsking a b t bs
asking_new a b t bs e few = subst (λ s. IsAsking a s t bs) (sym e) (record {
  extends = extends_claim a t bs (subst (λ (s : State). length s.claims ≤ most_claims) e few);
  asked = (length a.claims, bs, last_there a.claims (asked t bs), λ k h. h);
})

pub asking_old : (s : State) (t : ℕ) (bs : List Bool) → IsAsked s t bs → IsAsking s s t bs
asking_old s t bs h = record { extends = extends_self s; asked = h }

-- ---- what isn't known to have a value

asked_kept : (a b : State) → Extends a b → (t : ℕ) (cs : List Bool) → IsAsked a t cs → IsAsked b t cs
asked_kept a b e t cs h = (h.0, h.1, e.kept h.0 (asked t h.1) h.2, h.3)

mutual
  pub lacks_kept : (a b : State) → Extends a b → (bs : List Bool) (t : Ty) → Lacks a bs t → Lacks b bs t
  lacks_kept a b e bs Given h = h
  lacks_kept a b e bs (Parameter k) h = h
  lacks_kept a b e bs (Applied t ts) h = (h.0, all_lack_kept a b e bs ts h.0 h.1, asked_kept a b e t h.0 h.2)

  all_lack_kept : (a b : State) → Extends a b → (bs : List Bool) (ts : Tys) (cs : List Bool) → AllLack a bs ts cs → AllLack b bs ts cs
  all_lack_kept a b e bs NoTys [] h = tt
  all_lack_kept a b e bs NoTys (c ∷ cs) h = h
  all_lack_kept a b e bs (MoreTys t ts) [] h = h
  all_lack_kept a b e bs (MoreTys t ts) (c ∷ cs) h = (λ f. lacks_kept a b e bs t (h.0 f), all_lack_kept a b e bs ts cs h.1)

all_lack : (a b : State) (bs : List Bool) (ts : Tys) (fs : List Found) → AreFound a b bs ts fs → AllLack b bs ts (has_values fs)
all_lack a b bs NoTys [] h = tt
all_lack a b bs NoTys (f ∷ fs) h = h
all_lack a b bs (MoreTys t ts) [] h = h
all_lack a b bs (MoreTys t ts) (f ∷ fs) h = (h.1, all_lack a b bs ts fs h.2)

-- ---- a type

pub looked_given : (s : State) (bs : List Bool) (f : Found) → f.has_value ≡ true → IsLooked s s bs Given f
looked_given s bs f e = record { extends = extends_self s; suffice = λ g ds sound as' have. (Leaf, tt); lacks = λ g. absurd (true≢false (sym e ∙ g)) }

pub looked_parameter : (s : State) (bs : List Bool) (k : ℕ) (f : Found) → IsParameter bs k f → IsLooked s s bs (Parameter k) f
looked_parameter s bs k f h = record {
  extends = extends_self s;
  suffice = λ g ds sound as' have. (subst (λ ks. AllHave ds ks as') (h.needs g) have).0;
  lacks = λ g. sym h.has_value ∙ g;
}

pub looked_applied : (a b c : State) (bs : List Bool) (t : ℕ) (ts : Tys) (fs : List Found) (f : Found) → AreLooked a b bs ts fs → IsApplied b c t fs f → IsLooked a c bs (Applied t ts) f
looked_applied a b c bs t ts fs f looked applied = record {
  extends = extends_then a b c looked.extends applied.extends;
  suffice = λ h ds sound as' have. (let m = applied.marked h in extends_sound ds a b looked.extends sound m.0 t m.1 m.2 (fill_all as' ts) (λ k e. gathered_have ds a b bs ts fs looked.found sound m.1 as' 0 (subst (λ ks. AllHave ds ks as') m.4 have) k k (let z : k ≡ 0 + k = omega arith in z) e (m.3 k e)));
  lacks = λ h. (has_values fs, all_lack_kept b c applied.extends bs ts (has_values fs) (all_lack a b bs ts fs looked.found), applied.asked h);
}

-- ---- types one after another

-- some of the types are looked at: what holds once the rest is
abbrev pub Looking : State → State → List Bool → Tys → Tys → List Found → Type 0
Looking a b bs all rest fs = Extends a b × ((s : State) → Extends b s → (gs : List Found) → AreFound a s bs rest gs → AreFound a s bs all (fs ++ gs))

pub looking_first : (a : State) (bs : List Bool) (ts : Tys) → Looking a a bs ts ts []
looking_first a bs ts = (extends_self a, λ s e gs h. h)

append_one : {A : Type 0} (cs ds : List A) (c : A) → cs ++ c ∷ ds ≡ (cs ++ c ∷ []) ++ ds
append_one [] ds c = refl
append_one (x ∷ cs) ds c = ap (λ l. x ∷ l) (append_one cs ds c)

pub looking_next : (a b c : State) (bs : List Bool) (all : Tys) (t : Ty) (rest : Tys) (fs : List Found) (f : Found) → Looking a b bs all (MoreTys t rest) fs → IsLooked b c bs t f → Looking a c bs all rest (fs ++ f ∷ [])
looking_next a b c bs all t rest fs f l k = (extends_then a b c l.0 k.extends, λ s e gs h. subst (λ gs. AreFound a s bs all gs) (append_one fs gs f) (l.1 s (extends_then b c s k.extends e) (f ∷ gs) (λ g ds sound. k.suffice g ds (extends_sound ds a b l.0 sound), λ g. lacks_kept c s e bs t (k.lacks g), h)))

pub looking_last : (a b : State) (bs : List Bool) (all : Tys) (fs : List Found) → Looking a b bs all NoTys fs → AreLooked a b bs all fs
looking_last a b bs all fs l = record { extends = l.0; found = subst (λ gs. AreFound a b bs all gs) (append_none fs) (l.1 b (extends_self b) [] tt) }

-- ---- fields

abbrev pub Trying : State → State → List Bool → Tys → Tys → List ℕ → Type 0
Trying a b bs all rest ks = Extends a b × ((s : State) → Extends b s → IsBlocked s bs rest → IsBlocked s bs all) × ((ds : Declarations) → IsSound ds a → (ls : List ℕ) → AllSuffice ds ls rest → AllSuffice ds (ks ++ ls) all)

pub trying_first : (a : State) (bs : List Bool) (ts : Tys) → Trying a a bs ts ts []
trying_first a bs ts = (extends_self a, λ s e h. h, λ ds sound ls h. h)

append_all : (ks ls ms : List ℕ) → ks ++ (ls ++ ms) ≡ (ks ++ ls) ++ ms
append_all [] ls ms = refl
append_all (k ∷ ks) ls ms = ap (λ l. k ∷ l) (append_all ks ls ms)

pub trying_next : (a b c : State) (bs : List Bool) (all : Tys) (t : Ty) (rest : Tys) (ks : List ℕ) (f : Found) → Trying a b bs all (MoreTys t rest) ks → IsLooked b c bs t f → f.has_value ≡ true → Trying a c bs all rest (ks ++ f.needs.items)
trying_next a b c bs all t rest ks f l k e = (extends_then a b c l.0 k.extends, λ s g h. l.1 s (extends_then b c s k.extends g) (inr h), λ ds sound ls h. subst (λ ms. AllSuffice ds ms all) (append_all ks f.needs.items ls) (l.2 ds sound (f.needs.items ++ ls) (suffice_more ds f.needs.items ls t rest (k.suffice e ds (extends_sound ds a b l.0 sound)) h)))

pub trying_fails : (a b c : State) (bs : List Bool) (all : Tys) (t : Ty) (rest : Tys) (ks : List ℕ) (f g : Found) → Trying a b bs all (MoreTys t rest) ks → IsLooked b c bs t f → f.has_value ≡ false → g.has_value ≡ false → AreTried a c bs all g
trying_fails a b c bs all t rest ks f g l k e h = record { extends = extends_then a b c l.0 k.extends; suffice = λ i. absurd (true≢false (sym i ∙ h)); blocked = λ i. l.1 c k.extends (inl (k.lacks e)) }

pub trying_last : (a b : State) (bs : List Bool) (all : Tys) (ks : List ℕ) (f : Found) → Trying a b bs all NoTys ks → f.has_value ≡ true → f.needs.items ≡ ks → AreTried a b bs all f
trying_last a b bs all ks f l e is = record { extends = l.0; suffice = λ i ds sound. subst (λ ms. AllSuffice ds ms all) (append_none ks ∙ sym is) (l.2 ds sound [] (suffice_none ds [])); blocked = λ i. absurd (true≢false (sym e ∙ i)) }
