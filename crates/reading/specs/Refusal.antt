-- The refusals: the number, the layer and the place of each.
use Rattle.std.specs.Prelude.{ℕ}
use Rattle.reading.specs.declared.fault.Fault.{Fault}
use Rattle.reading.specs.declared.fault.Fault.TheVariants.{Buffer, LineLength, Digit, Sum, Kind, PayloadLength, Limit, OffHours, PeakDemand, Schedule, Flag, Closed, Standing, NoMeter, NotHeld, RecordFull, StoreFull, Unusable}
use Rattle.reading.specs.declared.fault.Layer.{Layer}
use Rattle.reading.specs.declared.fault.Layer.TheVariants as layer

-- The number by which a refusal is known.
abbrev pub number_of : Fault → ℕ
number_of Buffer = 1
number_of LineLength = 2
number_of (Digit column) = 3
number_of Sum = 4
number_of Kind = 5
number_of PayloadLength = 6
number_of (Limit byte) = 7
number_of OffHours = 8
number_of PeakDemand = 8
number_of Schedule = 9
number_of Flag = 10
number_of Closed = 11
number_of Standing = 12
number_of NoMeter = 13
number_of NotHeld = 13
number_of RecordFull = 14
number_of StoreFull = 15
number_of Unusable = 16

-- The layer in which it arises.
abbrev pub layer_of : Fault → Layer
layer_of Buffer = layer.Line
layer_of LineLength = layer.Line
layer_of (Digit column) = layer.Line
layer_of Sum = layer.Frame
layer_of Kind = layer.Frame
layer_of PayloadLength = layer.Frame
layer_of (Limit byte) = layer.Reading
layer_of OffHours = layer.Reading
layer_of PeakDemand = layer.Reading
layer_of Schedule = layer.Book
layer_of Flag = layer.Book
layer_of Closed = layer.Account
layer_of Standing = layer.Account
layer_of NoMeter = layer.Account
layer_of NotHeld = layer.Account
layer_of RecordFull = layer.Account
layer_of StoreFull = layer.Store
layer_of Unusable = layer.Store

-- The layers by number.
abbrev pub layer_number : Layer → ℕ
layer_number layer.Line = 1
layer_number layer.Frame = 2
layer_number layer.Reading = 3
layer_number layer.Book = 4
layer_number layer.Account = 5
layer_number layer.Store = 6

-- The place: a column of the line for a digit, else the first byte of the field in the frame, both from 1; 0 for the whole.
abbrev pub place_of : Fault → ℕ
place_of Buffer = 0
place_of LineLength = 0
place_of (Digit column) = column
place_of Sum = 0
place_of Kind = 1
place_of PayloadLength = 2
place_of (Limit byte) = byte
place_of OffHours = 18
place_of PeakDemand = 26
place_of Schedule = 11
place_of Flag = 13
place_of Closed = 3
place_of Standing = 9
place_of NoMeter = 9
place_of NotHeld = 3
place_of RecordFull = 9
place_of StoreFull = 3
place_of Unusable = 0
