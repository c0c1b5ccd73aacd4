use lib.ListN.{length-append}
use mathlib.Core.List.{◌∷◌, [], ◌++◌}
use Rattle.theory.specs.Bytes.{decimal, space}
use Rattle.text.specs.Put.{put-cursor, cursor-more}
use mathlib.Core.Path.{refl}
use native.Mathlib.Omega.{arith}
use Rattle.stream.proofs.dimacs.put_spaced.Goals as goal

-- `put_spaced` meets its contract.
pub put_number-e-requires : goal.put_number-e-requires
put_number-e-requires c = let s = c in omega (arith, s.requires, length-append (decimal s.args.n) (space ∷ []))

pub bounds-out-e : goal.bounds-out-e
bounds-out-e c = let s = c in
    let p = c.put_number-e in
    omega (arith, s.requires, p.ensures.place, p.auto.out, length-append (decimal s.args.n) (space ∷ []))

pub overflow_add-result : goal.overflow_add-result
overflow_add-result c = let s = c in
    let p = c.put_number-e in
    omega (arith, s.requires, s.well_formed, p.ensures.place, length-append (decimal s.args.n) (space ∷ []))

pub returns : goal.returns
returns c = let s = c in
    let p = c.put_number-e in
    let d = decimal s.args.n in record {
      written = put-cursor s.args.out.now p.new.out s.args.at p.result d (d ++ (space ∷ [])) 32 p.ensures.written p.ensures.place
          (omega (arith, s.requires, p.ensures.place, length-append d (space ∷ []))) refl;
      place = cursor-more s.args.at p.result d (d ++ (space ∷ [])) 32 p.ensures.place refl;
    }
