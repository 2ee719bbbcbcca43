-- The round trip of ABIF.
use Prim.Native.Nat.{ℕ}
use mathlib.Core.Path.{subst}
use mathlib.Core.List.{List}
use native.Mathlib.Omega.{arith}
use lib.ListN.{length}
use Rattle.abif_write.specs.Item.{Records, item_at}
use Rattle.abif_write.proofs.write.Laws.{made}
use Rattle.abif_write.proofs.Trip.{Lent, bits_fit, trip_whole, trip_opens, trip_kept, trip_only}
use Rattle.promises.specs.AbifWritten.{ItemsFitTypes, HoldsItems, AbifReadsBack}

lent_fits : (r : Records) (b : List ℕ) → ItemsFitTypes r b → Lent (item_at r) b
unfolding item_at
lent_fits r b f = record { names = f.of_names; numbers = f.of_numbers; types = λ k. bits_fit 2 _ (omega arith) (f.of_types k); bytes = f.of_bytes }

pub abif_reads_back : AbifReadsBack
abif_reads_back r b room file f h =
    let g = item_at r in
    let n = length r.names in
    let l = lent_fits r b f in
    let m = made r.names r.numbers r.types r.counts r.starts r.lengths b room file h in
    subst (λ (s : List ℕ). HoldsItems r b s) m.is
    (record {
      whole = trip_whole g b n l m.checked m.few m.short;
      opens = trip_opens g b n l m.checked m.few m.short;
      each = λ k i. let t = trip_kept g b n l m.checked m.few m.short k i in
          record { found = t.found; answers = t.answers; same_type = t.of_type; same_count = t.of_count; same_bytes = t.of_bytes };
      only = trip_only g b n l m.checked m.few m.short;
    })
