-- The bounds of a function's stack are unique.
use Rattle.std.proofs.Common.{◌≡◌, ℕ, arith}
use Rattle.fip_language.specs.Core.{Core}
use Rattle.fip_language.specs.Statics.{Closed}
use Rattle.fip_language.specs.Stack.{AreFrames, AreWords}

-- the least numbers are unique
pub AreFrames-unique : (core : Core) (f : Closed) (m n : ℕ) → AreFrames core f m → AreFrames core f n → m ≡ n
AreFrames-unique core f m n a b =
    let below = a.least b.enough.0 b.enough.1 in
    let above = b.least a.enough.0 a.enough.1 in
    let here = a.enough.2 in
    let there = b.enough.2 in
    omega arith

pub AreWords-unique : (core : Core) (f : Closed) (m n : ℕ) → AreWords core f m → AreWords core f n → m ≡ n
AreWords-unique core f m n a b =
    let below = a.least b.enough.0 b.enough.1 in
    let above = b.least a.enough.0 a.enough.1 in
    let here = a.enough.2 in
    let there = b.enough.2 in
    omega arith
