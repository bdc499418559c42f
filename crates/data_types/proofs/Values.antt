-- Where nothing more can be marked, just the data types whose own claims are marked have a value.
use Rattle.std.proofs.Common.{◌≡◌, ℕ, zero, suc, ◌+◌, ◌<◌, ◌≤◌, ◌⊎◌, inl, inr, Bool, true, false, List, [], ◌∷◌, ◌++◌, length, slice_get, Option, Some, None, refl, ap, sym, subst, ◌∙◌, arith, true≢false, if◌then◌else◌}
use Rattle.data_types.specs.Types.{Ty, Tys, Given, Parameter, Applied, NoTys, MoreTys, Declarations, arity, constructors, pick, fill, fill_all, Tree, Trees, Leaf, Node, End, More, HasType, HaveTypes, HasValue, own_from, own, IsValued}
use Rattle.data_types.specs.Marks.{State, asked, known, bit, Below, IsAsked, Lacks, AllLack, IsBlocked, BlockedAt, IsDone, AllDone, Agrees, Holds, IsSound, AllHave, Suffice, AllSuffice, HasAll, trues, root}
use Rattle.data_types.specs.Steps.{AreFound, has_values, gathered}
use Rattle.data_types.specs.declared.found.Found.{Found}
pub use Rattle.fip_language.proofs.Facts.{get_within as past}

-- ---- what suffices

pub have_left : (ds : Declarations) (ks ls : List ℕ) (as' : Tys) → AllHave ds (ks ++ ls) as' → AllHave ds ks as'
have_left ds [] ls as' h = tt
have_left ds (k ∷ ks) ls as' h = (h.0, have_left ds ks ls as' h.1)

pub have_right : (ds : Declarations) (ks ls : List ℕ) (as' : Tys) → AllHave ds (ks ++ ls) as' → AllHave ds ls as'
have_right ds [] ls as' h = h
have_right ds (k ∷ ks) ls as' h = have_right ds ks ls as' h.1

have_if : (ds : Declarations) (b : Bool) (ks ls : List ℕ) (as' : Tys) → b ≡ true → AllHave ds ((if b then ks else []) ++ ls) as' → AllHave ds ks as'
have_if ds true ks ls as' e h = have_left ds ks ls as' h
have_if ds false ks ls as' e h = absurd (true≢false (sym e))

-- where what a set's arguments need has a value, they have one
pub gathered_have : (ds : Declarations) (a b : State) (bs : List Bool) (ts : Tys) (fs : List Found) → AreFound a b bs ts fs → IsSound ds a → (set : List Bool) (as' : Tys) (j : ℕ) → AllHave ds (gathered j set fs) as' → (k i : ℕ) → i ≡ j + k → bit set i ≡ true → bit (has_values fs) k ≡ true → HasValue ds (pick (fill_all as' ts) k)
gathered_have ds a b bs NoTys [] found sound set as' j have k i is e h = (Leaf, tt)
gathered_have ds a b bs NoTys (f ∷ fs) found sound set as' j have k i is e h = absurd found
gathered_have ds a b bs (MoreTys t ts) [] found sound set as' j have k i is e h = absurd found
gathered_have ds a b bs (MoreTys t ts) (f ∷ fs) found sound set as' j have zero i is e h =
    let same : j ≡ i = omega (arith, is) in
    found.0 h ds sound as' (have_if ds (bit set j) f.needs.items (gathered (suc j) set fs) as' (ap (bit set) same ∙ e) have)
gathered_have ds a b bs (MoreTys t ts) (f ∷ fs) found sound set as' j have (suc k) i is e h =
    gathered_have ds a b bs ts fs found.2 sound set as' (suc j) (have_right ds (if bit set j then f.needs.items else []) (gathered (suc j) set fs) as' have) k i (omega (arith, is)) e h

pub suffice_none : (ds : Declarations) (ks : List ℕ) → AllSuffice ds ks NoTys
suffice_none ds ks as' h = (End, tt)

pub suffice_more : (ds : Declarations) (ks ls : List ℕ) (t : Ty) (ts : Tys) → Suffice ds ks t → AllSuffice ds ls ts → AllSuffice ds (ks ++ ls) (MoreTys t ts)
suffice_more ds ks ls t ts one more as' h =
    let v = one as' (have_left ds ks ls as' h) in
    let vs = more as' (have_right ds ks ls as' h) in
    (More v.0 vs.0, (v.1, vs.1))

agree_have : (ds : Declarations) (bs : List Bool) (ks : List ℕ) (as' : Tys) → HasAll bs ks → Agrees ds bs as' → AllHave ds ks as'
agree_have ds bs [] as' all agrees = tt
agree_have ds bs (k ∷ ks) as' all agrees = (agrees k all.0, agree_have ds bs ks as' all.1 agrees)

-- a claim of a data type with a constructor whose fields need no more arguments is true
pub claim_holds : (ds : Declarations) (t c : ℕ) (fs : Tys) (ks : List ℕ) (bs : List Bool) → slice_get (constructors ds t) c ≡ Some fs → AllSuffice ds ks fs → HasAll bs ks → Holds ds t bs
claim_holds ds t c fs ks bs e suffice all as' agrees =
    let vs = suffice as' (agree_have ds bs ks as' all agrees) in
    (Node c vs.0, (fs, e, vs.1))

-- ---- what has a value is marked

abbrev mutual
  pub size : Tree → ℕ
  size Leaf = 0
  size (Node c vs) = suc (sizes vs)

  pub sizes : Trees → ℕ
  sizes End = 0
  sizes (More v vs) = size v + sizes vs

-- the arguments with a value of at most this size are said to have one
abbrev pub Covers : Declarations → ℕ → List Bool → Tys → Type 0
Covers ds n bs as' = (k : ℕ) (v : Tree) → size v ≤ n → HasType ds (pick as' k) v → bit bs k ≡ true

covers_less : (ds : Declarations) (n : ℕ) (bs : List Bool) (as' : Tys) → Covers ds (suc n) bs as' → Covers ds n bs as'
covers_less ds n bs as' covers k v lt h = covers k v (omega (arith, lt)) h

-- what is said for trees of one size
abbrev pub Refutes : Declarations → State → ℕ → Type 0
Refutes ds s n = (bs : List Bool) (as' : Tys) → Covers ds n bs as' → (t : Ty) → Lacks s bs t → (v : Tree) → size v ≤ n → HasType ds (fill as' t) v → ⊥

covers_all : (ds : Declarations) (s : State) (n : ℕ) → Refutes ds s n → (bs : List Bool) (as' : Tys) → Covers ds n bs as' → (ts : Tys) (cs : List Bool) → AllLack s bs ts cs → Covers ds n cs (fill_all as' ts)
covers_all ds s n refutes bs as' covers NoTys [] lack k v lt h = refl
covers_all ds s n refutes bs as' covers NoTys (c ∷ cs) lack k v lt h = absurd lack
covers_all ds s n refutes bs as' covers (MoreTys t ts) [] lack k v lt h = absurd lack
covers_all ds s n refutes bs as' covers (MoreTys t ts) (c ∷ cs) lack zero v lt h = by c refl
  where
    by : (b : Bool) → c ≡ b → c ≡ true
    by true e = e
    by false e = absurd (refutes bs as' covers t (lack.0 e) v lt h)
covers_all ds s n refutes bs as' covers (MoreTys t ts) (c ∷ cs) lack (suc k) v lt h = covers_all ds s n refutes bs as' covers ts cs lack.1 k v lt h

not_blocked : (ds : Declarations) (s : State) (n : ℕ) → Refutes ds s n → (bs : List Bool) (as' : Tys) → Covers ds n bs as' → (fs : Tys) → IsBlocked s bs fs → (vs : Trees) → sizes vs ≤ n → HaveTypes ds (fill_all as' fs) vs → ⊥
not_blocked ds s n refutes bs as' covers NoTys b vs lt h = b
not_blocked ds s n refutes bs as' covers (MoreTys f fs) b End lt h = h
not_blocked ds s n refutes bs as' covers (MoreTys f fs) (inl b) (More v vs) lt h = refutes bs as' covers f b v (omega (arith, lt)) h.0
not_blocked ds s n refutes bs as' covers (MoreTys f fs) (inr b) (More v vs) lt h = not_blocked ds s n refutes bs as' covers fs b vs (omega (arith, lt)) h.1

not_asked : (ds : Declarations) (s : State) → AllDone ds s → (n : ℕ) → Refutes ds s n → (t : ℕ) (cs : List Bool) (as' : Tys) → Covers ds n cs as' → IsAsked s t cs → (c : ℕ) (vs : Trees) → sizes vs ≤ n → HasType ds (Applied t as') (Node c vs) → ⊥
not_asked ds s done n refutes t cs as' covers ask c vs lt h =
    not_blocked ds s n refutes ask.1 as' (λ k v le g. ask.3 k (covers k v le g)) h.0 (done ask.0 (past s.claims ask.0 (asked t ask.1) ask.2) c t ask.1 ask.2 h.0 h.1) vs lt h.2

pub refutes : (ds : Declarations) (s : State) → AllDone ds s → (n : ℕ) → Refutes ds s n
refutes ds s done n bs as' covers Given lacks v lt h = lacks
refutes ds s done n bs as' covers (Parameter k) lacks v lt h = true≢false (sym (covers k v lt h) ∙ lacks)
refutes ds s done n bs as' covers (Applied t ts) lacks Leaf lt h = h
refutes ds s done zero bs as' covers (Applied t ts) lacks (Node c vs) lt h = absurd (omega (arith, lt))
refutes ds s done (suc n) bs as' covers (Applied t ts) lacks (Node c vs) lt h =
    let less = covers_less ds n bs as' covers in
    not_asked ds s done n (refutes ds s done n) t lacks.0 (fill_all as' ts) (covers_all ds s n (refutes ds s done n) bs as' less ts lacks.0 lacks.1) lacks.2 c vs (omega (arith, lt)) h

-- ---- the two together, at a data type's own parameters

own_agrees : (ds : Declarations) (bs : List Bool) (j n : ℕ) → Agrees ds bs (own_from j n)
own_agrees ds bs j zero k h = (Leaf, tt)
own_agrees ds bs j (suc n) zero h = (Leaf, tt)
own_agrees ds [] j (suc n) (suc k) h = own_agrees ds [] (suc j) n k h
own_agrees ds (b ∷ bs) j (suc n) (suc k) h = own_agrees ds bs (suc j) n k h

trues_bit : (n k : ℕ) → bit (trues n) k ≡ true
trues_bit zero k = refl
trues_bit (suc n) zero = refl
trues_bit (suc n) (suc k) = trues_bit n k

pub root_has : (ds : Declarations) (t : ℕ) (bs : List Bool) → Holds ds t bs → IsValued ds t
root_has ds t bs holds = holds (own_from 0 (arity ds t)) (own_agrees ds bs 0 (arity ds t))

pub root_lacks : (ds : Declarations) (s : State) → AllDone ds s → (i t : ℕ) → slice_get s.claims i ≡ Some (asked t (root ds t)) → IsValued ds t → ⊥
root_lacks ds s done i t e has = by has.0 has.1
  where
    by : (v : Tree) → HasType ds (own ds t) v → ⊥
    by Leaf h = h
    by (Node c vs) h = not_asked ds s done (sizes vs) (refutes ds s done (sizes vs)) t (root ds t) (own_from 0 (arity ds t)) (λ k v lt g. trues_bit (arity ds t) k) (i, root ds t, e, λ k g. g) c vs (omega arith) h
