-- ABIF: the text of an item.
use Rattle.std.specs.Prelude.{ℕ, ◌+◌, ◌-◌, List, [], ◌∷◌, eqb}
use Rattle.reading.specs.Choice.{pick, among}
use Rattle.reading.specs.Check.{Check, done, provided, ◌>>=◌, ◌>>◌}
use Rattle.reading.specs.declared.part.Span.{Span}
use Rattle.reading.specs.Part.{bytes_at}
use Rattle.contents.specs.Text.{is_pstring, is_cstring}
use Rattle.reading.specs.declared.item.ItemData.{ItemData}
use Rattle.abif.specs.Lookup.{looking_up}
use Rattle.reading.specs.Item.{data_span}
use Rattle.abif_elements.specs.Element.{item_bytes}

-- a pString, whose first byte the text lacks; 11 where its rule does not hold
unfoldable pub p_string : ItemData → List ℕ → Check Span
p_string item bytes = do
  provided (is_pstring (bytes_at bytes (data_span item))) 11
  done (record { start = item.start + 1; size = item.size - 1 })

-- a cString, whose last byte the text lacks; 11 where its rule does not hold
unfoldable pub c_string : ItemData → List ℕ → Check Span
c_string item bytes = do
  provided (is_cstring (bytes_at bytes (data_span item))) 11
  done (record { start = item.start; size = item.size - 1 })

-- other types than pString and cString 10
unfoldable pub text_of : ItemData → Check Span
text_of item = do
  provided (among item.code (18 ∷ 19 ∷ [])) 10
  bytes ← item_bytes item
  pick (eqb item.code 18) (p_string item bytes) (c_string item bytes)

-- the text of the item with this name and number: lookup first, passing on its refusal
unfoldable pub text_reading : ℕ → ℕ → Check Span
text_reading name number = do
  item ← looking_up name number
  text_of item
