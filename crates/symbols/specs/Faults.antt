-- Why an entering is refused: numbers and layers.
use Rattle.std.specs.Prelude.{ℕ, Some, None, Ok, Err, Option, Result}
use Rattle.treefile.specs.declared.fault.Layer.{Layer}
use Rattle.treefile.specs.declared.fault.Layer.TheVariants as layer
pub use Rattle.treefile.specs.declared.fault.Refusal.{Refusal}
pub use Rattle.treefile.specs.declared.fault.Spot.{Spot}
use Rattle.symbols.specs.declared.fault.ScanReason.{ScanReason}
use Rattle.symbols.specs.declared.fault.ScanReason.TheVariants.{Unsupported, Parameter, Used, Annotated, Assigned, ModuleNonlocal, GlobalNonlocal, IterAssigned, NamedInIterable, NamedInClass, StarOutsideModule}
use Rattle.symbols.specs.declared.fault.MemoryReason.{MemoryReason}
use Rattle.symbols.specs.declared.fault.MemoryReason.TheVariants.{Tables, Symbols, Texts, Counts}
use Rattle.symbols.specs.declared.fault.Fault.{Fault}
use Rattle.symbols.specs.declared.fault.Fault.TheVariants.{Scan, Memory}

-- the numbers of the script's faults
abbrev pub scan_number : ScanReason → ℕ
scan_number Unsupported = 10
scan_number Parameter = 11
scan_number Used = 12
scan_number Annotated = 13
scan_number Assigned = 14
scan_number ModuleNonlocal = 15
scan_number GlobalNonlocal = 16
scan_number IterAssigned = 17
scan_number NamedInIterable = 18
scan_number NamedInClass = 19
scan_number StarOutsideModule = 20

-- each of them lies with who wrote the script
abbrev pub scan_layer : ScanReason → Layer
scan_layer Unsupported = layer.Scan
scan_layer Parameter = layer.Scan
scan_layer Used = layer.Scan
scan_layer Annotated = layer.Scan
scan_layer Assigned = layer.Scan
scan_layer ModuleNonlocal = layer.Scan
scan_layer GlobalNonlocal = layer.Scan
scan_layer IterAssigned = layer.Scan
scan_layer NamedInIterable = layer.Scan
scan_layer NamedInClass = layer.Scan
scan_layer StarOutsideModule = layer.Scan

-- the numbers of the memory's faults
abbrev pub memory_number : MemoryReason → ℕ
memory_number Tables = 22
memory_number Symbols = 23
memory_number Texts = 24
memory_number Counts = 25

-- each of them lies with who lends the memory
abbrev pub memory_layer : MemoryReason → Layer
memory_layer Tables = layer.Memory
memory_layer Symbols = layer.Memory
memory_layer Texts = layer.Memory
memory_layer Counts = layer.Memory

-- a fault has the number, the layer, the node and the row of its reason
abbrev pub fault_number : Fault → ℕ
fault_number (Scan f) = scan_number f.reason
fault_number (Memory f) = memory_number f.reason

abbrev pub fault_layer : Fault → Layer
fault_layer (Scan f) = scan_layer f.reason
fault_layer (Memory f) = memory_layer f.reason

abbrev pub fault_spot : Fault → Spot
fault_spot (Scan f) = f.spot
fault_spot (Memory f) = f.spot

-- the script is at fault, at a spot
abbrev pub scan_fault : ScanReason → Spot → Fault
scan_fault reason spot = Scan (record { reason = reason; spot = spot })

-- the memory is at fault, at a spot
abbrev pub memory_fault : MemoryReason → Spot → Fault
memory_fault reason spot = Memory (record { reason = reason; spot = spot })

-- a test of the scan: passed, or refused at a spot
abbrev pub judged : Option ScanReason → Spot → Result (Unit {0}) (Refusal ScanReason)
judged (Some r) spot = Err (record { reason = r; spot = spot })
judged None spot = Ok tt
