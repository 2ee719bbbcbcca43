-- The bench samples, computed from the definitions.
use mathlib.Core.Path.{refl}
use Rattle.reading.specs.Number.{be, le, signed}
use Rattle.contents.specs.Date.{is_date}
use Rattle.contents.specs.Time.{is_time}
use Rattle.reading.specs.Check.{answer}
use Rattle.reading.specs.Entries.{first_with, one_with, in_order}
use Rattle.abif.specs.Entry.{entry_of, has_tag, type_of, listed_check, raw_check, sizes_check, place_check, entry_check}
use Rattle.abif.specs.Directory.{header_check, bounds_check, directory, opening}
use Rattle.abif.specs.Judge.{judge_entry, judging}
use Rattle.abif.specs.Lookup.{data_of, item_of, lookup_in, looking_up}
use Rattle.abif_elements.specs.Element.{whole_at, date_at, time_at, value_at, element_of, element_reading}
use Rattle.sff_fields.specs.Padding.{padding, padded}
use Rattle.sff_fields.specs.Header.{mark_check, length_check, index_check, front_check}
use Rattle.sff_fields.specs.Read.{read_length_check}
use Rattle.sff.specs.Header as Header
use Rattle.sff.specs.Read.{read_header_at, present_data, present_read, framing}
use Rattle.sff.specs.Walk.{skip_index, next_read, walk, walk_past, before_read}
use Rattle.sff.specs.Judge as Judge
use Rattle.sff_fields.specs.Clips.{clips_check}
use Rattle.contents.specs.Steps.{sums_within, steps_check}
use Rattle.sff.specs.Lookup.{read_contents, read_from, read_in, read_reading}
use Rattle.sff_fields.specs.Parts.{read_of}
use Rattle.gtc.specs.Table as Table
use Rattle.gtc.specs.Entry as Entry
use Rattle.gtc.specs.Item.{listing_in, listing_of, array_count, elements_of, snp_check, shape_check, shaped_check, item_check}
use Rattle.gtc.specs.Judge as Items
use Rattle.gtc.specs.Lookup as Ids
use Rattle.gtc_records.specs.Genotype.{letters_from, meaning, decoding}
use Rattle.gtc_records.specs.Snp.{call_arrays, intensity_arrays, snp_arrays, snp_bytes, is_base_call, snp_at, snp_of, snp_reading}
use Rattle.promises.specs.Samples.{two_shorts, three_shorts, month_thirteen, sff_header, three_bases, no_entries, three_snps, three_codes, table, AllHold}

pub samples : AllHold table
unfolding answer be le signed first_with one_with in_order entry_of has_tag header_check bounds_check directory opening type_of listed_check raw_check sizes_check place_check entry_check judge_entry judging data_of item_of lookup_in looking_up whole_at is_date is_time date_at time_at value_at element_of element_reading padding padded mark_check length_check index_check front_check read_length_check Header.header_of Header.header read_header_at present_data present_read framing skip_index next_read walk walk_past before_read Judge.ending Judge.judging_reads Judge.judging clips_check sums_within steps_check read_of read_contents read_from read_in read_reading Table.mark_check Table.count_check Table.table Entry.entry_of Entry.has_id Entry.entry_with listing_in listing_of array_count elements_of snp_check shape_check shaped_check item_check Items.judge_as Items.judge_entry Items.unjudged_among Items.judge_table Items.judging Ids.lookup_listed Ids.lookup_in Ids.looking_up letters_from meaning decoding call_arrays intensity_arrays snp_arrays snp_bytes is_base_call snp_at snp_of snp_reading two_shorts three_shorts month_thirteen sff_header three_bases no_entries three_snps three_codes
samples = (refl, (refl, (refl, (refl, (refl, (refl, (refl, (refl, (refl, (refl, (refl, (refl, (refl, (refl, (refl, (refl, (refl, (refl, (refl, (refl, tt))))))))))))))))))))
