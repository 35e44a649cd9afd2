mod LittleEndian
mod Eight
