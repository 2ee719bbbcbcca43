-- The arrays that lookup finds: their size is that of their elements, and those with one element for each SNP have equal counts.
use Prim.Native.Nat.{ℕ, ◌*◌}
use mathlib.Core.Path.{◌≡◌, sym, ◌∙◌, ap, subst}
use mathlib.Core.List.{List}
use Rattle.reading.specs.Check.{ok, answer, provided}
use Rattle.reading.proofs.Passed.{bind_ok, done_ok, must_ok, ok_inj}
use Rattle.reading.proofs.Signed.{equal_to_is}
use Rattle.gtc.specs.declared.entry.Entry.{Entry}
use Rattle.gtc.specs.declared.item.Shape.{Shape}
use Rattle.gtc.specs.declared.item.Shape.TheVariants.{Array, SnpArray}
use Rattle.gtc.specs.declared.item.Stored.{Stored}
use Rattle.gtc.specs.declared.item.Stored.TheVariants.{Shaped}
use Rattle.std.specs.Prelude.{Some}
use Rattle.reading.specs.declared.item.ItemData.{ItemData}
use Rattle.gtc.specs.Table.{Table, table}
use Rattle.gtc.specs.Entry.{entry_with}
use Rattle.gtc.specs.Item.{listing_of, is_listed, num_snps_id, count_field, array_count, elements_of, snp_check, shape_check, shaped_check, item_check}
use Rattle.gtc.specs.Lookup.{stored_of, lookup_listed, lookup_in, looking_up}

-- what lookup of an id with a shape has passed
record Shapes (z : Shape) (s : List ℕ) (q : ItemData) : Type 0 where
  contents : Table
  opened : answer table s ≡ ok contents
  entry : Entry
  passed : answer (shape_check z contents.up_to contents.count entry) s ≡ ok q

shaped : (k : ℕ) (z : Shape) (s : List ℕ) (q : ItemData) → listing_of k ≡ Some (Shaped z) → answer (looking_up k) s ≡ ok q → Shapes z s q
unfolding looking_up lookup_in lookup_listed item_check shaped_check
shaped k z s q e w =
    let t = bind_ok table _ s q w in
    let a = bind_ok (provided (is_listed (listing_of k)) 10) _ s q t.2 in
    let d = bind_ok (entry_with t.0.up_to t.0.count k) _ s q a.2 in
    let i : stored_of (listing_of k) ≡ Shaped z = ap stored_of e in
    let b = bind_ok _ _ s q (subst (λ (v : Stored). answer (item_check v t.0.up_to t.0.count d.0) s ≡ ok q) i d.2) in
    record { contents = t.0; opened = t.1; entry = d.0; passed = b.2 }

sized : (w : ℕ) (d : Entry) (n : ℕ) (s : List ℕ) (q : ItemData) → answer (elements_of w d n) s ≡ ok q → (q.count ≡ n) × (q.size ≡ w * q.count)
unfolding elements_of
sized w d n s q h =
    let a = bind_ok _ _ s q h in
    let e = done_ok _ q s a.2 in
    (ap (λ (x : ItemData). x.count) (sym e), ap (λ (x : ItemData). x.size) (sym e) ∙ ap (λ (x : ItemData). w * x.count) e)

pub array_sized : (k w : ℕ) (s : List ℕ) (q : ItemData) → listing_of k ≡ Some (Shaped (Array w)) → answer (looking_up k) s ≡ ok q → q.size ≡ w * q.count
unfolding shape_check
array_sized k w s q e h =
    let f = shaped k (Array w) s q e h in
    let a = bind_ok (array_count f.entry.offset) _ s q f.passed in
    (sized w f.entry a.0 s q a.2).1

-- an array with one element for each SNP
pub record OfSnps (w : ℕ) (s : List ℕ) (q : ItemData) : Type 0 where
  pub size : q.size ≡ w * q.count
  pub contents : Table
  pub opened : answer table s ≡ ok contents
  pub snps : Entry
  pub known : answer (entry_with contents.up_to contents.count num_snps_id) s ≡ ok snps
  pub count : q.count ≡ snps.offset

pub of_snps : (k w : ℕ) (s : List ℕ) (q : ItemData) → listing_of k ≡ Some (Shaped (SnpArray w)) → answer (looking_up k) s ≡ ok q → OfSnps w s q
unfolding shape_check snp_check
of_snps k w s q e h =
    let f = shaped k (SnpArray w) s q e h in
    let a = bind_ok (array_count f.entry.offset) _ s q f.passed in
    let b = bind_ok (snp_check f.contents.up_to f.contents.count f.entry.offset a.0) _ s q a.2 in
    let v = bind_ok (entry_with f.contents.up_to f.contents.count num_snps_id) _ s b.0 b.1 in
    let z = sized w f.entry a.0 s q b.2 in
    record {
      size = z.1;
      contents = f.contents;
      opened = f.opened;
      snps = v.0;
      known = v.1;
      count = z.0 ∙ equal_to_is (count_field f.entry.offset a.0) v.0.offset (must_ok _ _ _ s b.0 v.2);
    }

pub same_count : (v w : ℕ) (s : List ℕ) (q r : ItemData) → OfSnps v s q → OfSnps w s r → q.count ≡ r.count
same_count v w s q r a b =
    let t : a.contents ≡ b.contents = ok_inj (sym a.opened ∙ b.opened) in
    let d : a.snps ≡ b.snps = ok_inj (sym a.known ∙ ap (λ (c : Table). answer (entry_with c.up_to c.count num_snps_id) s) t ∙ b.known) in
    a.count ∙ ap (λ (x : Entry). x.offset) d ∙ sym b.count
