-- What a folder and a source reported, or what they may hold where they reported nothing.
use Rattle.std.proofs.Common.{◌≡◌, ◌∙◌, ◌<◌, ◌+◌, ℕ, List, [], ◌∷◌, ◌++◌, length, replicate, sym, ap, subst, refl, inl, inr, append-nil, arith, if◌then◌else◌}
use Rattle.std.specs.Prelude.{Option, Some, None, IsSomeAnd}
use Rattle.std.specs.Io.KnownBytes.{Consumes, IsAtEnd}
use Rattle.std.proofs.lemmas.List.{length-append, length-replicate}
use Rattle.std.proofs.lemmas.Slice.Eq.{bytes_eq-Decides}
use Rattle.fip_outside.specs.Files.{File, file_of, HoldsFile, HoldsLonger}
use Rattle.fip_outside.specs.Takes.{Takes}
use Rattle.command_answers.specs.Stored.{IsReported}
use Rattle.fip_driver.specs.Fetched.{FetchFails, ReadFails}
use Rattle.command_outcome.specs.declared.failure.Failure.{Failure}
use Rattle.command_outcome.specs.declared.failure.Failure.TheVariants as F

-- something is reported, or else this may be
pub any_reported : {A : Type 0} (o : Option A) (x : A) → (y : A) × IsReported o y
any_reported None x = (x, tt)
any_reported (Some y) x = (y, refl)

pub own_name : (name bytes : List ℕ) → file_of name (record { name = name; bytes = bytes } ∷ []) ≡ Some bytes
own_name name bytes = ap (λ b. if b then Some bytes else None) ((bytes_eq-Decides name name).1 refl)

-- files that are reported, with these bytes under the name
pub held : (files : Option (List File)) (name bytes : List ℕ) → HoldsFile files name bytes → (all : List File) × IsReported files all × (file_of name all ≡ Some bytes)
held None name bytes h = (record { name = name; bytes = bytes } ∷ [], tt, own_name name bytes)
held (Some all) name bytes h = (all, refl, h)

-- so many bytes
pub bytes_of : (n : ℕ) → (bytes : List ℕ) × (length bytes ≡ n)
bytes_of n = (replicate n 0, length-replicate n 0)

pub longer : (name : List ℕ) (limit : ℕ) → (all : List File) × HoldsLonger (Some all) name limit
longer name limit =
    let b = bytes_of (limit + 1) in
    let all : List File = record { name = name; bytes = b.0 } ∷ [] in
    let enough : limit < length b.0 = let n = b.1 in omega arith in
    (all, subst (λ o. IsSomeAnd o (λ bs. limit < length bs)) (sym (own_name name b.0)) enough)

-- the same cause, of files that are reported
pub reported_fetch : (files : Option (List File)) (name : List ℕ) (before now : ℕ) (f : Failure) → FetchFails files name before now f → (all : List File) × IsReported files all × FetchFails (Some all) name before now f
reported_fetch (Some all) name before now f h = (all, refl, h)
reported_fetch None name before now (F.Refused x) h = let l = longer name 1048576 in (l.0, tt, (h.0, l.1))
reported_fetch None name before now (F.Fault object) h = ([], tt, (h.0, elim h.1 [ inl up ↦ inl up | inr gone ↦ absurd gone ]))
reported_fetch None name before now F.NoMemory h = ([], tt, tt)
reported_fetch None name before now failure h = absurd h

-- the same cause, of an input that is reported
pub reported_input : (before left : Option (List ℕ)) (old new : ℕ) (f : Failure) → ReadFails before left old new f → (input : List ℕ) × IsReported before input × ((rest : Option (List ℕ)) × ReadFails (Some input) rest old new f)
reported_input (Some input) left old new f h = (input, refl, (left, h))
reported_input None left old new (F.BadInput at) h =
    let b = bytes_of 16777217 in
    (b.0, tt, (Some [], (h.0, (b.0, sym (append-nil b.0), b.1))))
reported_input None left old new (F.Fault object) h = ([], tt, (None, h))
reported_input None left old new F.NoMemory h = ([], tt, (None, tt))
reported_input None left old new failure h = absurd h

-- an input that was read to its end is what was reported
pub whole_of : (before left : Option (List ℕ)) (read : List ℕ) → Consumes before left read → IsAtEnd left → IsReported before read
whole_of None left read c end = tt
whole_of (Some xs) None read c end = absurd c
whole_of (Some xs) (Some ys) read c end =
    let none : ys ≡ [] = end in
    c ∙ (ap (λ ys. read ++ ys) none ∙ append-nil read)

-- what took more bytes than an input may have leaves an input that has more
pub more_left : (input : List ℕ) (left : Option (List ℕ)) → Takes (Some input) left 16777217 → 16777216 < length input
more_left input None h = absurd h.1
more_left input (Some rest) h =
    let long : length input ≡ length h.0 + length rest = ap length h.1 ∙ length-append h.0 rest in
    let taken = h.2 in
    omega arith
