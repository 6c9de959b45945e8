-- Which carts are made.
use Rattle.std.specs.Prelude.{cond, ◌&&◌, ℤ, pos, Ok, Err, Result, int_le}
use Rattle.cart.specs.declared.Cart.{Cart}
use Rattle.machines.specs.declared.making.MakingRefusal.{MakingRefusal}
use Rattle.machines.specs.declared.making.MakingRefusal.TheVariants.{RailLength}

-- a cart is its rail's length
abbrev pub lengths : Result Cart MakingRefusal → Result ℤ MakingRefusal
lengths (Ok c) = Ok c.length
lengths (Err e) = Err e

-- the rail of the given length, if it is from 1 to 100,000
abbrev pub rail : ℤ → Result ℤ MakingRefusal
rail length = cond (int_le (pos 1) length && int_le length (pos 100000)) (Ok length) (Err RailLength)
