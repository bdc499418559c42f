-- Making with counting first or without: what the loading of a whole text gives.
use Rattle.std.proofs.Common.{◌≡◌, ℕ, zero, suc, ◌+◌, ◌-◌, ◌*◌, ◌<◌, ◌≤◌, ◌^◌, Bool, List, length, refl, sym, ap, ap₂, ◌∙◌, subst, arith}
use Rattle.std.specs.Prelude.{Result, Ok, Err}
use Rattle.std.proofs.Math.Nat.{mul-zero}
use Rattle.std.specs.declared.vec.Vec.{Vec}
use Rattle.std.specs.declared.alloc.Global.{Global}
use Rattle.fip_language.specs.Prefix.{Accepted}
use Rattle.fip_language.specs.Values.{Values}
use Rattle.fip_language.specs.Table.{Table}
use Rattle.fip_language.specs.Store.{count}
use Rattle.cell_store.specs.Cells.{Cells}
use Rattle.cell_store.specs.Made.{Loading}
use Rattle.value_text.specs.Machine.{start}
use Rattle.value_text.specs.Scan.{runs}
use Rattle.value_text.specs.Reading.{whole}
use Rattle.value_text.specs.declared.build.Stopped as B
use Rattle.value_text.specs.declared.build.Stopped.TheVariants as S
use Rattle.value_text.specs.declared.counts.Counts.{Counts}
use Rattle.value_text.specs.Counting.{count_at, IsCounted}
use Rattle.value_text.specs.Loaded.{AreSizes, IsGiven, needed, wanted, words_up_to, free_in}
use Rattle.value_text.specs.Building.{Built, IsRead, HasRoom, IsCrediting}
use Rattle.value_text.specs.Answered.{CanLoad, Credited, WholeBuilt, AllBuilt, IsAnswer, IsTried}
use Rattle.value_text.proofs.Taken.{words_zero, words_suc}
use Rattle.value_text.proofs.Counted.{cells_le_all}
use Rattle.value_text.proofs.Credits.{wanted_sum, counted_words}

pub room_of : (tb : Table) (types credits bytes : List ℕ) (first : Loading) (vs : Values) → CanLoad tb types credits bytes first vs → HasRoom tb (whole types) bytes (wanted credits vs) first vs
room_of tb types credits bytes first vs can = record { reads = can.reads; wanted = λ k. omega arith; fits = can.fits; flags = can.flags }

pub read_of : (tb : Table) (types credits bytes : List ℕ) (first : Loading) (vs : Values) → runs tb bytes (start types) 0 ≡ Accepted vs → length first.released ≡ length first.cells → IsRead tb (whole types) bytes (wanted credits vs) first vs
read_of tb types credits bytes first vs reads flags = record { reads = reads; wanted = λ k. omega arith; flags = flags }

pub accepted_same : (a b : Values) → Accepted a ≡ Accepted b → a ≡ b
accepted_same a b e = cc

same_values : (tb : Table) (types bytes : List ℕ) (vs ws : Values) → runs tb bytes (start types) 0 ≡ Accepted vs → runs tb bytes (start types) 0 ≡ Accepted ws → vs ≡ ws
same_values tb types bytes vs ws a b = accepted_same vs ws (sym a ∙ b)

-- what was built of a whole text and credits
pub credited_whole : (tb : Table) (types credits bytes : List ℕ) (first now : Loading) (vs : Values) (r : Result (Vec ℕ Global) B.Stopped) → runs tb bytes (start types) 0 ≡ Accepted vs → Credited credits first now vs r → WholeBuilt tb types credits bytes first now r
credited_whole tb types credits bytes first now vs (Ok ws) reads h = (vs, reads, h)
credited_whole tb types credits bytes first now vs (Err (S.BadValue k)) reads h = absurd h
credited_whole tb types credits bytes first now vs (Err S.Full) reads h = λ us can. h (subst (λ vs. needed first credits vs ≤ first.left) (same_values tb types bytes us vs can.reads reads) can.fits)
credited_whole tb types credits bytes first now vs (Err S.NoMemory) reads h = tt

pub not_whole : (tb : Table) (types credits bytes : List ℕ) (first now : Loading) (e : B.Stopped) → Built tb (whole types) bytes first now (Err e) → WholeBuilt tb types credits bytes first now (Err e)
not_whole tb types credits bytes first now (S.BadValue k) h = h
not_whole tb types credits bytes first now S.Full h = λ vs can. h (wanted credits vs) vs (room_of tb types credits bytes first vs can)
not_whole tb types credits bytes first now S.NoMemory h = tt

pub not_credited : (credits : List ℕ) (first now : Loading) (vs : Values) (e : B.Stopped) → ((k : ℕ) → e ≡ S.BadValue k → ⊥) → (e ≡ S.Full → needed first credits vs ≤ first.left → ⊥) → Credited credits first now vs (Err e)
not_credited credits first now vs (S.BadValue k) f g = f k refl
not_credited credits first now vs S.Full f g = g refl
not_credited credits first now vs S.NoMemory f g = tt

-- with room, all of it is built
pub all_built : (tb : Table) (types credits bytes : List ℕ) (first now : Loading) (vs : Values) (r : Result (Vec ℕ Global) B.Stopped) → CanLoad tb types credits bytes first vs → WholeBuilt tb types credits bytes first now r → AllBuilt credits first now vs r
all_built tb types credits bytes first now vs (Ok ws) can h = subst (λ vs. IsCrediting credits (wanted credits vs) first now vs ws.items) (same_values tb types bytes h.0 vs h.1 can.reads) h.2
all_built tb types credits bytes first now vs (Err (S.BadValue k)) can h = let z = sym h ∙ can.reads in cc
all_built tb types credits bytes first now vs (Err S.Full) can h = h vs can
all_built tb types credits bytes first now vs (Err S.NoMemory) can h = tt

-- what was built had room
pub nothing_left : (n : ℕ) (want free : ℕ → ℕ) → words_up_to n (λ k. want k - want k) free ≡ 0
nothing_left zero want free = words_zero (λ k. want k - want k) free
nothing_left (suc n) want free =
    let h = nothing_left n want free in
    let d : (suc n + 1) * (want (suc n) - want (suc n) - free (suc n)) ≡ 0 = ap (λ x. (suc n + 1) * x) (let z : want (suc n) - want (suc n) - free (suc n) ≡ 0 = omega arith in z) ∙ mul-zero (suc n + 1) in
    words_suc n (λ k. want k - want k) free ∙ ap₂ (λ a x. a + x) h d

pub loading_is : (a b : Loading) → a.cells ≡ b.cells → a.released ≡ b.released → a.left ≡ b.left → a ≡ b
loading_is a b c r l = ap (λ (x : Cells). record a { cells = x }) c ∙ ap (λ (x : List Bool). record a { cells = b.cells; released = x }) r ∙ ap (λ (x : ℕ). record b { left = x }) l

pub tried : (tb : Table) (types credits bytes : List ℕ) (first now : Loading) (ws : Vec ℕ Global) → length first.released ≡ length first.cells → WholeBuilt tb types credits bytes first now (Ok ws) → IsTried tb types credits bytes first (Ok (now, ws))
tried tb types credits bytes first now ws flags h =
    let left = (h.2).taken.left in
    let none = nothing_left 16 (wanted credits h.0) (free_in now) in
    (h.0, record { reads = h.1; fits = (let a = left in let b = none in omega (arith, a, b)); flags = flags }, h.2)

pub not_tried : (tb : Table) (types credits bytes : List ℕ) (first now : Loading) (e : B.Stopped) → WholeBuilt tb types credits bytes first now (Err e) → IsTried tb types credits bytes first (Err e)
not_tried tb types credits bytes first now (S.BadValue k) h = h
not_tried tb types credits bytes first now S.Full h = tt
not_tried tb types credits bytes first now S.NoMemory h = tt

-- the loader that was reserved is the one that was given
pub answer_made : (tb : Table) (types credits bytes : List ℕ) (first first' now : Loading) (vs : Values) (ws : Vec ℕ Global) → first' ≡ first → (CanLoad tb types credits bytes first' vs → AllBuilt credits first' now vs (Ok ws)) → CanLoad tb types credits bytes first vs → IsAnswer tb types credits bytes first (Ok (now, ws))
answer_made tb types credits bytes first first' now vs ws e h can =
    (vs, can, subst (λ l. AllBuilt credits l now vs (Ok ws)) e (h (subst (λ l. CanLoad tb types credits bytes l vs) (sym e) can)))

pub answer_never : (tb : Table) (types credits bytes : List ℕ) (first first' now : Loading) (vs : Values) (e : B.Stopped) → first' ≡ first → (CanLoad tb types credits bytes first' vs → AllBuilt credits first' now vs (Err e)) → CanLoad tb types credits bytes first vs → AllBuilt credits first' now vs (Err e)
answer_never tb types credits bytes first first' now vs e s h can = h (subst (λ l. CanLoad tb types credits bytes l vs) (sym s) can)

-- the words that were counted are those that are needed
pub record Needs (tb : Table) (types credits bytes : List ℕ) (first : Loading) (n : ℕ) : Type 0 where
  pub values : Values
  pub reads : runs tb bytes (start types) 0 ≡ Accepted values
  pub words : n ≡ needed first credits values

pub counted_needs : (tb : Table) (types credits bytes : List ℕ) (first : Loading) (before after : Counts) (n : ℕ) → IsGiven tb types credits bytes → IsCounted tb types bytes (Ok before) → (AreSizes credits → ((k : ℕ) → k ≤ 16 → count_at before k + length credits < 2 ^ 64) → (k : ℕ) → k ≤ 16 → count_at after k ≡ count_at before k + count k credits) → (words_up_to 16 (count_at after) (λ _. 0) < 2 ^ 64 → n ≡ words_up_to 16 (count_at after) (free_in first)) → Needs tb types credits bytes first n
counted_needs tb types credits bytes first before after n given counted sizes words =
    let vs = counted.0 in
    let few = counted.3 in
    let short = given.short in
    let allowed = given.allowed in
    let most = allowed.few in
    let room : (k : ℕ) → k ≤ 16 → count_at before k + length credits < 2 ^ 64 = λ k le. (let a = counted.2 k le in let b = cells_le_all k vs in omega (arith, a, b, few, short, most)) in
    let exact : (k : ℕ) → k ≤ 16 → count_at after k ≡ wanted credits vs k = λ k le. sizes allowed.sizes room k le ∙ ap (λ m. m + count k credits) (counted.2 k le) in
    let sum = wanted_sum credits vs allowed in
    let same = counted_words 16 (count_at after) (wanted credits vs) (λ _. 0) exact in
    record {
      values = vs;
      reads = counted.1;
      words = words (omega (arith, sum, same, few, short)) ∙ counted_words 16 (count_at after) (wanted credits vs) (free_in first) exact;
    }
