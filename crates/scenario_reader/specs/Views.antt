-- The reader's own values as what they mean.
use Rattle.scenario_reader.specs.declared.standing.Place.{Place as PlaceValue}
use Rattle.scenario_reader.specs.declared.standing.Place.TheVariants as values
use Rattle.scenario_reader.specs.declared.reader.Reader.{Reader}
use Rattle.scenario_reader.specs.Readings.{Place, Start, Memory, Body, Code, Image, Ended, Reading}

abbrev pub place_view : PlaceValue → Place
place_view values.Start = Start
place_view (values.Memory groups) = Memory groups
place_view values.Body = Body
place_view (values.Code frame offset) = Code frame offset
place_view (values.Image head) = Image head.space head.frame head.thread
place_view values.Ended = Ended

abbrev pub reader_view : Reader → Reading
reader_view r = record { number = r.number; place = place_view r.place; block = r.block; bytes = r.bytes.items; flat = r.flat; decls = r.decls.items }
