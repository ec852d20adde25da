-- What the parts of a value are that an arena shows.
use Rattle.std.specs.Prelude.{◌≡◌}
use Rattle.object_arena.specs.Names.{Some, text_value, range_value, struct_value, fragment_value, module_value, native_value, replacement, function_at, item_kind_of, Ref, function_in, native_by, Owns, OwnsOption, OwnsFields, OwnsBuilt, OwnsFunction, View, value_of, fields_in, option_in, built_in}
use Rattle.star_values.specs.declared.value.Sort.TheVariants as sort
use Rattle.star_values.specs.declared.value.Value.TheVariants as value
use Rattle.object_arena.specs.declared.readers.Shape.{Shape}
use Rattle.object_arena.specs.declared.readers.Shape.TheVariants as shape

-- the value of a reference is made of these parts, which are owned
abbrev pub HasShape : View → Ref → Shape → Type 0
HasShape a r (shape.Text t) = (r.sort ≡ sort.Text) × (value_of a (value.Text r) ≡ text_value t.now)
HasShape a r (shape.Range start stop step) = (r.sort ≡ sort.Range) × (value_of a (value.Range r) ≡ range_value start stop step)
HasShape a r (shape.Struct fs) = (r.sort ≡ sort.Struct) × (value_of a (value.Struct r) ≡ struct_value (fields_in a.held fs.now)) × OwnsFields a fs.now
HasShape a r (shape.Func f) = (r.sort ≡ sort.Func) × (function_at r.at a.store ≡ Some (function_in a.held f.now)) × OwnsFunction a f.now
HasShape a r (shape.Native by x on) = (r.sort ≡ sort.Native) × (value_of a (value.Native r) ≡ native_value (native_by by x.now (option_in a.held on))) × OwnsOption a on
HasShape a r (shape.Replacement v) = (r.sort ≡ sort.Native) × (value_of a (value.Native r) ≡ native_value (replacement (value_of a v))) × Owns a v
HasShape a r (shape.Module x fs) = (r.sort ≡ sort.Module) × (value_of a (value.Module r) ≡ module_value x.now (fields_in a.held fs.now)) × OwnsFields a fs.now
HasShape a r (shape.Fragment k is) = (r.sort ≡ sort.Fragment) × (value_of a (value.Fragment r) ≡ fragment_value (item_kind_of k) (built_in a.held is.now)) × OwnsBuilt a is.now
