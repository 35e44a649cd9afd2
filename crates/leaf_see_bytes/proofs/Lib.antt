mod Uuid
